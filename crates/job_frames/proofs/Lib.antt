-- The lemmas of this crate.
pub mod Rooms
pub mod Making
