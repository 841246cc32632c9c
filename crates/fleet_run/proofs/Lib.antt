-- The lemmas of this crate.
mod Commands
mod FewWaits
mod Cutting
mod Marked
mod Begun
mod Declared
