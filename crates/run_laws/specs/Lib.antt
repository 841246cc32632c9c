-- The definitions of this crate.
pub mod Jobs
pub mod Sound
