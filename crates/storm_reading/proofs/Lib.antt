-- The lemmas of this crate.
pub mod Writing
pub mod Stepping
pub mod Naming
pub mod Rows
pub mod Leading
pub mod Saying
pub mod Declaring
pub mod Joining
pub mod Script
