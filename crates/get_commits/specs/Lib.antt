-- The definitions of the word behind the bytes of a part.
pub mod Judging
