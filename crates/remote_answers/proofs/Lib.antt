-- Lemmas on the steps of a remote drop that take a frame.
pub mod Feedings
pub mod Losses
pub mod Ordering
pub mod Standing
pub mod TimeCalls
pub mod Timing
