-- The definitions of this crate.
pub mod Forms
pub mod Fields
pub mod Kinds
pub mod Lines
pub mod Reading
pub mod WellFormed
