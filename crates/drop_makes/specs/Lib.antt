-- The definitions of this crate.
pub mod Items
pub mod Knowings
pub mod Answers
pub mod Holds
