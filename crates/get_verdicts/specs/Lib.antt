-- The definitions of the verdict on a part.
pub mod Verdicts
