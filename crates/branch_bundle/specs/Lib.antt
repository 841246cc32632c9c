-- The definitions of this crate.
pub mod Bundle
pub mod Parts
