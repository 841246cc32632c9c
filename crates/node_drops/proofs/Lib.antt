-- The lemmas of this crate, which the crates above use too.
pub mod Hearing
pub mod Knowing
pub mod Freeing
pub mod Sides
