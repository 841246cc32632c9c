-- The lemmas of this crate.
pub mod AlikeLemmas
pub mod GroupLemmas
pub mod WishLemmas
