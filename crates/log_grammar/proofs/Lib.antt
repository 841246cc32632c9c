-- The lemmas of this crate, of which `log_lines` uses some.
pub mod EqualLemmas
pub mod BodyLemmas
pub mod FileLemmas
pub mod FormLemmas
pub mod GroupLemmas
pub mod NumberLemmas
pub mod PlainLemmas
pub mod ReadLemmas
pub mod RepoLemmas
pub mod StampLemmas
pub mod WordLemmas
pub mod WriteLemmas
