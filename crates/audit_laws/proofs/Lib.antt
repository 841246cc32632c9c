-- The lemmas of this crate.
pub mod Carried
pub mod Told
pub mod Numbers
pub mod Frames
