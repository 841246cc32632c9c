-- The lemmas of this crate.
pub mod Holding
pub mod Changed
pub mod Placing
pub mod Keys
pub mod Jobs
pub mod Counting
pub mod Noted
pub mod Kept
pub mod Told
pub mod Taken
