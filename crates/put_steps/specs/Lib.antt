-- The definitions of copies, which the crates above cite.
pub mod Puts
pub mod Putting
pub mod Stepping
