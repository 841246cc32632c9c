-- The definitions of this crate.
pub mod Past
pub mod Said
pub mod Frames
pub mod Logs
pub mod Drops
pub mod Safety
pub mod States
pub mod Words
pub mod Run
pub mod Causes
pub mod Syncs
