-- The definitions of this crate, and those of drops that the crates above cite.
pub mod Places
pub mod Reads
pub mod Drops
pub mod Waiting
pub mod Feeds
pub mod Doings
pub mod Calling
pub use Rattle.drop_worker.specs.Apart
pub use Rattle.drop_worker.specs.Begun
pub use Rattle.drop_worker.specs.Doing
pub use Rattle.drop_worker.specs.Feeding
pub use Rattle.drop_worker.specs.Leaving
pub use Rattle.drop_worker.specs.States
pub use Rattle.drop_worker.specs.Worker
pub use Rattle.drop_worker.specs.Working
