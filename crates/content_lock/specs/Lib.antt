-- The definitions of this crate.
pub mod Blocking
pub mod Indexed
pub mod Looks
pub mod Owners
pub mod Rows
pub mod Stored
pub mod Tokens
pub mod Turns
pub mod CallsMade
