-- The lemmas of this crate.
mod Counts
