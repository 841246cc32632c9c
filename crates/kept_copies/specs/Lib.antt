-- The definitions of this crate.
pub mod Trusting
pub mod Scripts
pub mod Storms
