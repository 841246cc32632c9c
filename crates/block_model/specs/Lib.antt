-- The definitions of this crate.
pub mod Following
pub mod Rest
pub mod Doings
pub mod Blocks
pub mod Leading
pub mod Stopping
pub mod Merging
pub mod Alone
pub mod Nodes
