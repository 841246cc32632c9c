-- The definitions of this crate.
pub mod Ends
pub mod Sent
pub mod Going
pub mod Joined
pub mod Invariant
pub mod Changes
pub mod Carrying
