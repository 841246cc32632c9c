-- The lemmas of this crate.
pub mod BeginLemmas
pub mod BesideLemmas
pub mod FullLemmas
pub mod GainLemmas
pub mod PlaceCallLemmas
pub mod TurnLemmas
pub mod WalkLemmas
