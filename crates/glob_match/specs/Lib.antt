-- The definitions of this crate.
pub mod Glob
pub mod Numbers
pub mod Spelled
pub mod Walk
