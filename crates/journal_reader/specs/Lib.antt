-- The definitions of this crate.
pub mod Answers
pub mod Heads
pub mod Steps
