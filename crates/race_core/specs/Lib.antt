-- The definitions of this crate.
pub mod Places
pub mod Readings
pub mod Removals
pub mod Copies
pub mod Items
