-- What contracts of a drop cite.
pub mod Worker
pub mod Sends
pub mod Standings
pub mod Working
pub mod Doing
pub mod Feeding
pub mod Leaving
pub mod Begun
pub mod Sides
pub mod Apart
pub mod Calling
