-- The lemmas of this crate.
pub mod Slots
pub mod Meeting
pub mod Sides
pub mod Wanting
