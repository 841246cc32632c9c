-- The lemmas of this crate.
mod Chosen
mod Ended
mod Identifiers
mod Places
