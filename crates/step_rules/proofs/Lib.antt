-- The lemmas of this crate.
mod SameStep
mod SameReads
pub mod Alone
mod Peers
mod Carrying
mod After
mod Starts
mod Rules
mod Found
mod Members
mod Accepting
mod Places
mod Marks
mod Heard
mod Starting
mod Breaks
mod Accepted
mod Changing
