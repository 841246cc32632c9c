-- The definitions of this crate.
pub mod Lines
pub mod Plans
pub mod Row
pub mod Shown
pub mod Wanted
