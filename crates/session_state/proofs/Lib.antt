-- The lemmas of sessions, which the crates of their answers cite, too.
pub mod Agreeing
pub mod Calling
pub mod Doings
pub mod Holding
pub mod Leaving
pub mod Making
pub mod Moves
pub mod Phases
pub mod Replies
pub mod RowCalls
pub mod StateFacts
pub mod Stepping
pub mod Telling
pub mod Transfers
pub mod Unexpected
pub mod Waiting
