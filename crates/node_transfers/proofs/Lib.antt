-- The lemmas of this crate.
pub mod Peers
pub mod Hearing
pub mod Going
