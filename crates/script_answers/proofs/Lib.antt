-- The lemmas of this crate, and those that `annex_cli` has in common with it.
pub mod WordLemmas
pub mod DueLemmas
pub mod ReportLemmas
pub mod GoodLemmas
pub mod StormLemmas
pub mod StormWords
pub mod FullLemmas
pub mod EveryText
