-- The definitions of this crate.
pub mod KeyText
pub mod Reading
pub mod View
pub mod Faults
pub mod KeyFile
pub mod FileKey
pub mod Tree
pub mod TreeView
