-- The definitions of this crate.
pub mod Inputs
pub mod Lines
pub mod Script
