-- The lemmas of this crate.
mod Marks
