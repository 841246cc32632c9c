-- The lemmas of this crate.
pub mod Setting
pub mod Naming
pub mod Waiting
pub mod Joining
pub mod Listing
pub mod Dropping
