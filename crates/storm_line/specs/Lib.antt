-- The definitions of this crate.
pub mod Counts
pub mod Line
pub mod Running
