-- The lemmas of this crate.
mod Nameless
mod Knowing
mod Moves
mod Coming
mod Noting
