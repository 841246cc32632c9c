-- The lemmas of this crate.
pub mod FrontLemmas
pub mod PlaceLemmas
pub mod SpellingLemmas
pub mod FillLemmas
pub mod NumberLemmas
pub mod ContentLemmas
pub mod FieldLemmas
