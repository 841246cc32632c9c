-- The lemmas of this crate.
mod Walks
mod Others
mod Carried
mod Planned
mod Wanting
