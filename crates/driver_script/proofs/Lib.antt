-- The lemmas of this crate.
mod BuiltLemmas
mod StandingLemmas
mod DeclaringLemmas
mod WaitingLemmas
