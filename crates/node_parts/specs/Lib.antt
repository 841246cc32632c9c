-- The definitions of this crate, and those of jobs, of drops and of sessions that the crates above cite.
pub mod Parts
pub mod Sound
pub mod Kinds
pub mod Steps
pub mod Direct
pub mod Posting
pub mod Sending
pub mod Jobs
pub mod Stored
pub mod Closing
pub use Rattle.running_jobs.specs.Acting
pub use Rattle.running_jobs.specs.Beginning
pub use Rattle.running_jobs.specs.Leaving
pub use Rattle.running_jobs.specs.Running
pub use Rattle.running_jobs.specs.Places
pub use Rattle.drop_phases.specs.Feeding
pub use Rattle.drop_phases.specs.Working
pub use Rattle.running_jobs.specs.Task
pub use Rattle.running_jobs.specs.Tasks
pub use Rattle.running_jobs.specs.TransferJob
pub use Rattle.running_jobs.specs.Worker
pub use Rattle.running_jobs.specs.Workers
pub use Rattle.running_jobs.specs.Drops
pub use Rattle.running_jobs.specs.Waiting
pub use Rattle.node_sessions.specs.Sessions
pub use Rattle.node_sessions.specs.Kinds as SessionKinds
pub use Rattle.p2p_server.specs.Answers
