-- Lemmas on remote drops, for their crates.
pub mod Apart
pub mod CandidateLists
pub mod EndCalls
pub mod Losing
pub mod RemoteBegun
pub mod RemoteChoices
pub mod RemoteEndings
pub mod RemoteLeavings
pub mod RemoteOwings
pub mod RemoteVerdicts
pub mod Requesting
