-- The definitions of this crate.
pub mod Answers
pub mod Context
pub mod Changes
pub mod Verify
pub mod Steps
pub mod Forms
pub mod Limits
