-- What contracts of syncs cite: the definitions of this crate, and those of jobs.
pub mod Others
pub use Rattle.fleet_keys.specs.Jobs
