-- The definitions of this crate.
pub mod Branch
pub mod FileView
pub mod LineSet
