-- The lemmas of this crate.
mod CloseLemmas
mod LineLemmas
mod FrameLemmas
