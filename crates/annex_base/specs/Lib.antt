-- The definitions of this crate.
pub mod Bools
pub mod ByteOrder
pub mod Calls
pub mod Causes
pub mod Decimal
pub mod Finding
pub mod InMemory
pub mod Lines
pub mod Lists
pub mod OptionSteps
pub mod RepoText
pub mod ResultSteps
pub mod Settings
pub mod StampReading
pub mod StampText
pub mod Standard
