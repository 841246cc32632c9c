-- The lemmas of this crate.
pub mod Unexpected
pub mod Losses
pub mod Greeting
pub mod Filling
pub mod Refusals
