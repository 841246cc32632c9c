-- The definitions of this crate.
pub mod Expressions
pub mod Finding
pub mod Formula
pub mod FormulaCode
pub mod Parsed
pub mod Pieces
pub mod Reading
pub mod Syntax
pub mod Tokens
pub mod Truth
pub mod Wanted
pub mod Words
