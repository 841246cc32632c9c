-- The definitions of this crate.
pub mod Moments
pub mod Rows
