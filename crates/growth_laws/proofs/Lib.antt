-- The lemmas of this crate.
pub mod OwnParts
pub mod PathsRead
pub mod HistoriesGrow
pub mod MergedLists
pub mod MergedOrder
pub mod MergedRuns
pub mod RunsGrow
pub mod MergedNodes
pub mod RunStarts
