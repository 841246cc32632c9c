-- The lemmas of this crate.
mod Crashes
mod StepCalls
