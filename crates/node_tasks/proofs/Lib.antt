-- The lemmas of this crate.
pub mod Seeing
pub mod Drops
pub mod Transfers
pub mod Owing
pub use Rattle.node_drops.proofs.Knowing
pub use Rattle.node_drops.proofs.Hearing
