-- The definitions of this crate.
pub mod Crashed
pub mod Looks
