-- The lemmas of this crate.
mod Beginning
mod Failing
mod Placing
mod Unasked
mod PartPlacing
mod Growing
mod FullJobs
mod FullContents
mod NamedPaths
