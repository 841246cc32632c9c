-- The lemmas of this crate, and those on its requests, its right to fill a key and what its steps leave, which the crates of
-- gets above use.
pub mod Filling
pub mod Following
pub mod Keeping
pub mod Leaving
pub mod Losses
pub mod Others
