-- The lemmas of this crate.
mod FlightLemmas
mod TableLemmas
mod WayLemmas
