-- Lemmas on ledgers, for this crate and those of a repository above it.
pub mod DebtLemmas
pub mod FullLemmas
pub mod GainLemmas
pub mod LeftLemmas
pub mod LogLemmas
pub mod WalkCallLemmas
pub mod WalkLemmas
pub mod WriteLemmas
