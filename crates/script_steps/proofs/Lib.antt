-- The lemmas of this crate.
pub mod GroupLemmas
pub mod PieceLemmas
