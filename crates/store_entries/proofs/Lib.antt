-- Lemmas on changes of files and on parts, for this crate and those of a node above it.
pub mod ChangeLemmas
pub mod IndexLemmas
pub mod PartLemmas
pub mod PlaceCallLemmas
