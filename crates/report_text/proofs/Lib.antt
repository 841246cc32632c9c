-- The lemmas of this crate.
mod Firsts
mod Identified
mod JoinedWords
mod Reported
