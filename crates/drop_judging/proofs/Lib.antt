-- Lemmas on judgements, for the crates of drops.
pub mod Chosen
pub mod Evidences
pub mod Judgings
pub mod Verdicts
