-- The definitions of this crate.
pub mod Frames
pub mod Ends
pub mod Invariant
pub mod Ways
pub mod Places
