-- The definitions of the steps of gets that take no frame.
pub mod Requesting
