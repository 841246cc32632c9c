-- Lemmas on the steps of drops, for the crates of drops.
pub mod Callings
pub mod Doings
pub mod Endings
pub mod FrameCalls
pub mod Greetings
pub mod Heards
pub mod Leavings
pub mod Numbers
pub mod OwnCopies
pub mod Partings
pub mod Takings
pub mod Talks
pub mod Tokens
pub mod Unexpected
pub mod Words
