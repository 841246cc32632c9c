-- The definitions of this crate.
pub mod Changes
pub mod Rows
