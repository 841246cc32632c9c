-- The definitions of this crate.
pub mod Clocks
pub mod Counts
pub mod Places
pub mod Peers
pub mod Links
pub mod Working
pub mod Changes
pub mod Bounds
pub mod States
