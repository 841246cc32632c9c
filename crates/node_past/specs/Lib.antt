-- The definitions of this crate.
pub mod Calls
pub mod Owing
pub mod Pasts
pub mod Stored
