-- The lemmas of this crate.
mod SessionLemmas
