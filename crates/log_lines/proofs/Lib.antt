-- The lemmas of this crate.
pub mod StatementLemmas
pub mod CompactLemmas
pub mod NewerLemmas
pub mod NewestLemmas
pub mod NextLemmas
pub mod OrderLemmas
pub mod PutLemmas
