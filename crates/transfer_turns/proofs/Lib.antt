-- Lemmas on the steps of transfers, for the crates of transfers.
pub mod Actings
pub mod Closings
pub mod Frames
pub mod Hearings
pub mod Leavings
pub mod Makings
pub mod Partners
pub mod Pieces
pub mod Works
