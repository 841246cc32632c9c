-- The lemmas of this crate.
pub mod Following
pub mod Numbers
pub mod ReplyLines
pub mod Small
