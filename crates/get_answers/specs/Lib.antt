-- The definitions of the steps of gets that take a frame.
pub mod Taking
