-- The lemmas of this crate.
mod Carrying
mod Turning
mod Quiet
mod Rounds
mod Ending
mod Time
mod Standing
mod Closes
mod Crashes
