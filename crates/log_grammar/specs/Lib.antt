-- The definitions of this crate.
pub mod LineText
pub mod Files
pub mod Reading
