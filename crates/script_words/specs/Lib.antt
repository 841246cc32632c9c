-- The definitions of this crate.
pub mod Places
pub mod Words
pub mod Spelling
pub mod Marks
pub mod Numbers
pub mod Contents
pub mod Forms
pub mod Fields
