-- The lemmas of this crate.
pub mod Listing
pub mod Framing
pub mod Filling
pub mod Standing
pub mod Pieces
pub mod Turning
pub mod Stepping
pub mod Answering
pub mod Outcomes
pub mod Among
pub mod Building
pub mod Leaving
pub mod Seeing
pub mod Keys
pub mod Shutting
pub mod Making
pub mod Called
pub mod Storing
pub mod Finding
mod Crashing
