-- The definitions of this crate.
pub mod Flights
pub mod Entries
pub mod Fleets
pub mod Words
pub mod Heard
