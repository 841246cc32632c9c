-- The lemmas of this crate.
mod WorkLemmas
