-- The lemmas of this crate.
mod BlockerLemmas
mod IndexedLemmas
mod NumberedLemmas
mod OwnerLemmas
mod RecoveredLemmas
mod StoredLemmas
mod TokenLemmas
mod TurnLemmas
