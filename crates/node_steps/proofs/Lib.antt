-- Lemmas on a ledger and the parts beside it, for this crate and repo_node.
pub mod BeginLemmas
pub mod DueLemmas
pub mod KeptLemmas
pub mod MoveLemmas
pub mod NoteLemmas
pub mod PayLemmas
pub mod StateLemmas
pub mod StepLemmas
pub mod TurnLemmas
pub mod CloseLemmas
pub mod CrashLemmas
