-- The definitions of this crate.
pub mod Ways
pub mod Tables
pub mod Flights
