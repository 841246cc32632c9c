-- The definitions of this crate.
pub mod Closing
pub mod Restarting
