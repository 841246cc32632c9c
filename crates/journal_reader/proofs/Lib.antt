-- The lemmas of this crate.
pub mod HeadLemmas
pub mod LineLemmas
pub mod EndLemmas
pub mod PushLemmas
pub mod FrameLemmas
pub mod AddedLemmas
pub mod SetUpLemmas
pub mod TreeLemmas
pub mod EntryLemmas
