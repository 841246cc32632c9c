-- What contracts cite of a repository's transfers.
pub mod Ready
pub mod Workers
pub use Rattle.transfer_worker.specs.declared.worker.Worker
pub use Rattle.transfer_worker.specs.States
pub use Rattle.transfer_worker.specs.Workers as Transferring
