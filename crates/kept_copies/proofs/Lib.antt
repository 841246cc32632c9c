-- The lemmas of this crate.
pub mod Counting
pub mod Needs
pub mod Staying
pub mod Coming
pub mod Untrusted
pub mod TrustFiles
pub mod Walking
pub mod Written
pub mod Preparing
pub mod Placing
pub mod Limited
pub mod Keeping
pub mod Stormy
