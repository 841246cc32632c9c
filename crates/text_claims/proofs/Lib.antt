-- The claims of this crate.
pub mod Cases
pub mod Opened
pub mod Digests
pub mod Keys
pub mod Logs
pub mod Branches
pub mod Settings
pub mod Expressions
pub mod Texts
pub mod Wire
