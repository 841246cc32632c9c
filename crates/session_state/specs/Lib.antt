-- The definitions of sessions, which the crates above cite.
pub mod Answers
pub mod Bounds
pub mod Giving
pub mod Phases
pub mod SessionCalls
pub mod States
pub mod Stepping
pub mod Talking
