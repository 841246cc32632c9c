-- The definitions of this crate.
pub mod Claims
pub mod Opened
