-- What contracts of a fleet cite: the definitions of this crate, and those of a run.
pub mod Commands
pub use Rattle.fleet_entries.specs.AtDriver
pub use Rattle.fleet_entries.specs.Fleets
pub use Rattle.fleet_entries.specs.Joined
pub use Rattle.fleet_entries.specs.Stored
