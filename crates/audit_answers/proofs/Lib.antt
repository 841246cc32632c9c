-- The lemmas of this crate.
pub mod JournalRuns
pub mod Sizes
pub mod Taking
pub mod Written
pub mod AuditDue
pub mod OneAnswer
