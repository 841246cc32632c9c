-- The lemmas of this crate.
pub mod ClaimLemmas
pub mod ExprLemmas
pub mod GlobLemmas
pub mod IndexLemmas
pub mod KeptLemmas
pub mod LineLemmas
pub mod MergeLemmas
pub mod NumberLemmas
pub mod PathLemmas
pub mod ReadsLemmas
pub mod RepoLemmas
pub mod SameLemmas
