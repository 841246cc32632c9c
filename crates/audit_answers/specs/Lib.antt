-- The definitions of this crate.
pub mod Texts
pub mod Due
