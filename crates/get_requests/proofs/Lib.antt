-- The lemmas of this crate.
pub mod Keeping
pub mod Stepping
pub mod Requests
pub mod Firsts
pub mod Nexts
pub mod Results
