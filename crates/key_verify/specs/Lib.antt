-- The definitions of this crate.
pub mod Digests
pub mod Sums
pub mod Matching
pub mod MakingKeys
