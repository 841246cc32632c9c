-- The definitions of this crate.
pub mod Phases
pub mod Works
pub mod Around
