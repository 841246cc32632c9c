-- The lemmas of this crate.
pub mod MadeKeys
pub mod Verdicts
