-- The definitions of this crate.
pub mod Bounds
pub mod Sides
pub mod Ends
