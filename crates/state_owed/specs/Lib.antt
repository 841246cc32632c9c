-- The definitions of this crate.
pub mod Lines
pub mod Owed
pub mod Changes
pub mod Paying
