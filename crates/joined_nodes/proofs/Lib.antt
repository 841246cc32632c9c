-- The lemmas of this crate.
pub mod Apart
pub mod Bundles
pub mod Made
pub mod Setting
pub mod Staying
pub mod Keeping
pub mod Carried
pub mod CarriedAll
