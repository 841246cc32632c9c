-- The lemmas of this crate.
pub mod BranchLemmas
pub mod DifferenceLemmas
pub mod LineLemmas
pub mod MergeLemmas
pub mod PathLemmas
pub mod PlaceLemmas
pub mod SetLemmas
pub mod ViewLemmas
pub mod UndoneLemmas
