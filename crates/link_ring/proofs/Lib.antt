-- The lemmas of this crate.
pub mod Taking
pub mod Order
pub mod Pairs
pub mod Dropping
