-- The lemmas of this crate.
pub mod Settling
pub mod LateOrder
pub mod CrashAfterOrder
pub mod RaceOfTwoDrops
pub mod ThreeRepositories
pub mod LostReply
pub mod CopyAndMove
pub mod BlockOfTwo
pub mod FaultsOfTheScript
pub mod FullRing
pub mod BlockOfDrops
pub mod RestartedClockAhead
pub mod SyncOfTwo
pub mod SyncWithAFault
