-- The lemmas of this crate.
mod BranchLemmas
mod Numbers
mod Pasts
mod RowLemmas
mod RowTables
mod SetTables
mod Tables
