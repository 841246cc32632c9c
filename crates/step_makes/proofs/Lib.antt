-- The lemmas of this crate.
mod KnowledgeLemmas
mod NeedLemmas
mod OwingLemmas
mod RoomLemmas
mod SlotLemmas
mod StepLemmas
