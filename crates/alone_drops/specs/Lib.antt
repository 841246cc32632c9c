-- The definitions of this crate.
pub mod Offers
pub mod Alone
