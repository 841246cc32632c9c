-- The lemmas of this crate.
pub mod CopiesLemmas
pub mod CutLemmas
pub mod FaultLemmas
pub mod GrammarLemmas
pub mod NameLemmas
pub mod ParseLemmas
pub mod ParsedLemmas
pub mod ReadLemmas
pub mod ReadWordLemmas
pub mod SameLemmas
pub mod SoundLemmas
pub mod StackLemmas
pub mod TextLemmas
pub mod TokenLemmas
pub mod UniqueLemmas
pub mod WantedLemmas
pub mod WordLemmas
