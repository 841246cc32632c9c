-- The lemmas of this crate.
pub mod Among
pub mod EntryKinds
pub mod Placing
pub mod Filling
pub mod Stepping
pub mod Transfers
pub mod Parting
pub mod Peers
pub mod Owning
pub mod Slots
pub mod Staying
pub mod Beginning
pub mod Nameless
pub mod Ends
pub mod Standing
pub mod FirstSteps
pub mod Seeing
