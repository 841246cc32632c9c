-- The lemmas of this crate.
pub mod PartLemmas
pub mod TextLemmas
