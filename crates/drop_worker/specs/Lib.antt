-- What contracts of a drop's worker cite.
pub mod States
pub mod Stepping
pub use Rattle.drop_phases.specs.Worker
pub use Rattle.drop_phases.specs.Sends
pub use Rattle.drop_phases.specs.Standings
pub use Rattle.drop_phases.specs.Working
pub use Rattle.drop_phases.specs.Doing
pub use Rattle.drop_phases.specs.Feeding
pub use Rattle.drop_phases.specs.Leaving
pub use Rattle.drop_phases.specs.Begun
pub use Rattle.drop_phases.specs.Sides
pub use Rattle.drop_phases.specs.Apart
pub use Rattle.drop_phases.specs.Calling
pub use Rattle.drop_judging.specs.Judging
pub use Rattle.remote_requests.specs.Remote
