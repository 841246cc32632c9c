-- The definitions of this crate, and those of keys and of location logs that the crates above cite.
pub mod Files
pub mod Histories
pub mod Repos
pub use Rattle.annex_key.specs.View as KeyView
pub use Rattle.hash_dirs.specs.LogPath
