-- The lemmas of this crate.
pub mod MatchLemmas
pub mod ReadingLemmas
pub mod SetLemmas
pub mod SpelledLemmas
pub mod WalkLemmas
