-- The definitions of gets, which the crates above cite.
pub mod Asking
pub mod Gets
pub mod Getting
pub mod Losing
