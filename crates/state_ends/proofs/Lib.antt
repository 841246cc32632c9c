-- The lemmas of this crate.
mod EndLemmas
