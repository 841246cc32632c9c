-- The definitions of this crate.
pub mod BlockLists
pub mod ByKey
pub mod CallCounts
pub mod Calls
pub mod HoldList
pub mod Stores
