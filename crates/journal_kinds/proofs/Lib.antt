-- The lemmas of this crate.
pub mod BegunLemmas
pub mod RowLemmas
