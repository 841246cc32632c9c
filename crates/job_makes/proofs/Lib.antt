-- The lemmas of this crate.
mod SayingLemmas
mod PartingLemmas
