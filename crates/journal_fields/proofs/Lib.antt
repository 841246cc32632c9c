-- The lemmas of this crate.
pub mod CutLemmas
pub mod ListLemmas
