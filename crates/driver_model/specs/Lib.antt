-- The definitions of this crate.
pub mod Lines
pub mod Stores
pub mod Driver
pub mod ScriptSteps
pub mod Turning
pub mod Rounds
pub mod Syncs
pub mod Driving
pub mod Scripts
pub mod Logged
pub mod Ways
pub mod Apart
pub mod Sound
pub mod WordsRead
pub mod Finding
pub mod Limits
