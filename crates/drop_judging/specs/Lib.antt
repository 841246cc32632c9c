-- What contracts of judgements cite.
pub mod Judging
