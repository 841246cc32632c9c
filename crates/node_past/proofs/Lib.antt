-- Lemmas on pasts and on the calls of a step, for this crate and those of a node above it.
pub mod CallLemmas
pub mod OwedLemmas
pub mod PastLemmas
