-- The lemmas of this crate.
mod Entries
