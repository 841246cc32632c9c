-- The definitions of this crate.
pub mod Standings
pub mod Known
pub mod Begun
pub mod Reads
