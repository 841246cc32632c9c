-- The definitions of this crate.
pub mod Calls
pub mod Changes
pub mod Indexed
pub mod Placing
