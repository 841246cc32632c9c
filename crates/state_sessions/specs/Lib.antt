-- The definitions of this crate.
pub mod Doings
pub mod Hearing
pub mod Heard
pub mod Tables
pub mod Sessions
