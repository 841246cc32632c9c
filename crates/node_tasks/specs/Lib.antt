-- What contracts of a running job cite, and of drops and of transfers what the crates above cite.
pub mod Tasks
pub mod Telling
pub mod Acting
pub mod Owing
pub mod Handing
pub use Rattle.node_transfers.specs.Ready
pub use Rattle.node_transfers.specs.States
pub use Rattle.node_transfers.specs.declared.job.TransferJob
pub use Rattle.node_transfers.specs.Worker
pub use Rattle.node_transfers.specs.Workers
pub use Rattle.node_drops.specs.Drops
pub use Rattle.node_drops.specs.Places
pub use Rattle.node_drops.specs.Reads
pub use Rattle.node_drops.specs.Waiting
pub use Rattle.node_drops.specs.declared.feed.Feed
pub use Rattle.node_drops.specs.Feeds
