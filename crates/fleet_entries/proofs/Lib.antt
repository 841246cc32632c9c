-- The lemmas of this crate.
pub mod Called
pub mod Whole
pub mod Few
pub mod Raising
pub mod Driving
pub mod Entries
pub mod Full
pub mod Growing
pub mod Ended
pub mod Starts
pub mod Ending
