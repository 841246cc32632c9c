-- The lemmas of this crate.
mod PeerLemmas
mod PlaceLemmas
mod StayLemmas
mod StateLemmas
