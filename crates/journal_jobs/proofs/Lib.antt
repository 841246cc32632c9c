-- The lemmas of this crate.
pub mod MarkLemmas
pub mod TableLemmas
