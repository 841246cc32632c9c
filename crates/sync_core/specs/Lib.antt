-- The definitions of this crate, and those of plans that it stands on.
pub mod KeyPlans
pub mod Placement
pub use Rattle.wanted_rules.specs.Plan
