-- The lemmas of this crate.
pub mod LawLemmas
pub mod LineLemmas
pub mod MemoryLemmas
pub mod StepLemmas
pub mod KeyLemmas
pub mod StandingForms
pub mod StandingLines
pub mod VerifyLemmas
pub mod NumberLemmas
