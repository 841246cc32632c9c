-- The lemmas of this crate.
mod Closings
mod Keeping
mod Lines
mod Reading
mod Replies
mod Requests
mod Sendings
mod Unexpected
