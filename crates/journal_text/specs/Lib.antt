-- The definitions of this crate.
pub mod Journal
pub mod Begun
