-- The lemmas of this crate.
mod Writing
mod Growing
mod Full
