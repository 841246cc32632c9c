-- The lemmas of this crate.
pub mod Among
pub mod Filling
pub mod Sounding
pub mod Saying
pub mod Going
pub mod Asked
pub mod Served
pub mod Posting
pub mod Posts
pub mod Rooms
pub mod Pieces
pub mod Gotten
pub mod Gains
pub mod Hearing
pub mod Acted
pub mod Staying
pub mod Closes
mod Crashes
