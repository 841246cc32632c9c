-- The lemmas of this crate.
mod Beginnings
mod Counted
mod FirstKeys
mod Totals
mod Written
