-- The lemmas of this crate.
mod EndLemmas
mod HoldLemmas
mod ReadingLemmas
