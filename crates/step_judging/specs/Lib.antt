-- The definitions of this crate.
pub mod Telling
pub mod Same
pub mod Rules
pub mod Verdicts
pub mod Carried
pub mod Told
pub mod Audits
