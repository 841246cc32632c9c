-- The lemmas of this crate.
mod BranchLemmas
mod FileLemmas
