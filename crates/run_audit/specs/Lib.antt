-- The definitions of this crate.
pub mod Holders
pub mod Records
pub mod Changes
pub mod Orders
pub mod Telling
pub mod Audited
