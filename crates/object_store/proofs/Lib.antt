-- The lemmas of this crate.
mod BlockLemmas
mod ByKeyLemmas
mod RecordLemmas
