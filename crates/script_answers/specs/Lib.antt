-- The definitions of this crate.
pub mod Exit
pub mod Whole
pub mod Runs
pub mod Top
pub mod Storms
