-- The definitions of this crate.
pub mod Texts
pub mod Sendings
pub mod Outcomes
