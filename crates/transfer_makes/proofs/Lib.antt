-- The lemmas of this crate.
mod Others
mod Parts
mod Refused
