-- The definitions of the steps of transfers, which the crates above cite.
pub mod Lines
pub mod Parcels
pub mod Partners
pub mod Turns
pub mod Steps
