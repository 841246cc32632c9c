-- The lemmas of this crate.
pub mod BeginLemmas
pub mod EndLemmas
pub mod ExactLemmas
pub mod FileLemmas
pub mod FillLemmas
pub mod NumberLemmas
pub mod PartLemmas
pub mod ReadLemmas
pub mod TestLemmas
pub mod TextLemmas
