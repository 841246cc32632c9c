-- The lemmas of this crate, and those on the calls by which a part is asked for.
pub mod Reading
pub mod PartCalls
