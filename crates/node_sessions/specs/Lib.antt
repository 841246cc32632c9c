-- The definitions of this crate.
pub mod Sessions
pub mod Words
pub mod Kinds
pub mod Serving
pub mod Pieces
pub mod Turns
pub mod Stored
pub mod Moments
pub mod Built
