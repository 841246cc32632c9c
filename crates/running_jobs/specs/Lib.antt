-- The definitions of this crate.
pub mod Running
pub mod Beginning
pub mod Acting
pub mod Leaving
pub mod Finding
pub mod Changes
pub mod Ending
pub use Rattle.node_tasks.specs.Acting as TaskActing
pub use Rattle.node_tasks.specs.declared.task.Task
pub use Rattle.node_tasks.specs.declared.acted.Output
pub use Rattle.node_tasks.specs.TransferJob
pub use Rattle.node_tasks.specs.Tasks
pub use Rattle.node_tasks.specs.Telling
pub use Rattle.node_tasks.specs.declared.readiness.Told
pub use Rattle.node_tasks.specs.declared.acted.Sent
pub use Rattle.node_tasks.specs.Ready
pub use Rattle.node_tasks.specs.States
pub use Rattle.node_tasks.specs.Worker
pub use Rattle.node_tasks.specs.Workers
pub use Rattle.node_tasks.specs.Waiting
pub use Rattle.node_tasks.specs.Places
pub use Rattle.node_tasks.specs.Feed
pub use Rattle.node_tasks.specs.Feeds
pub use Rattle.node_tasks.specs.Drops
