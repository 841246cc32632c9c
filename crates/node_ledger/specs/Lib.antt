-- The definitions of this crate.
pub mod Calls
pub mod Debts
pub mod Ledgers
pub mod Logs
pub mod Placing
pub mod Refusals
pub mod Walks
