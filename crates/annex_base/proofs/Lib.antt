-- The lemmas of this crate.
pub mod Calls
pub mod Conditions
pub mod DecimalLemmas
pub mod Functions
pub mod KnownLemmas
pub mod Lines
pub mod Lists
pub mod Numbers
pub mod Options
pub mod Pasts
pub mod RepoLemmas
pub mod Results
pub mod Rows
pub mod StampLemmas
pub mod TextOrder
pub mod Words
