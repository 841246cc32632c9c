-- The lemmas of this crate.
pub mod ServedLemmas
pub mod ExpectingLemmas
pub mod MakingLemmas
