-- The definitions of this crate.
pub mod Trees
pub mod Members
pub mod Runs
pub mod States
pub mod Allowed
