-- The definitions of this crate.
pub mod Before
pub mod Branches
pub mod Contents
pub mod Rows
pub mod Scan
pub mod Sets
pub mod Walk
