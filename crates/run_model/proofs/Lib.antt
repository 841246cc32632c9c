-- The lemmas of this crate.
mod Others
mod SyncCounts
