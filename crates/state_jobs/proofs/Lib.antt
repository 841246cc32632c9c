-- The lemmas of this crate.
mod PhaseLemmas
