-- The definitions of this crate.
pub mod Words
pub mod Names
pub mod Jobs
pub mod Outcomes
