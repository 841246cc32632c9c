-- The lemmas of this crate.
mod Drawn
