-- The lemmas of this crate.
mod Requests
mod Since
