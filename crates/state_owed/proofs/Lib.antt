-- The lemmas of this crate.
mod ChangeLemmas
mod PayLemmas
