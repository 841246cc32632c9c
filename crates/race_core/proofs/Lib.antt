-- The lemmas of this crate.
pub mod Reading
pub mod AtPlaces
pub mod ReadLaws
pub mod Distinct
pub mod Dropped
pub mod Numbers
pub mod ItemSources
pub mod ClaimSources
pub mod JobBegins
pub mod OneDrop
pub mod NeedsRead
pub mod FirstSteps
