-- The definitions of this crate, and those of `script_answers`.
pub use Rattle.script_answers.specs.Exit
pub use Rattle.script_answers.specs.Whole
pub use Rattle.script_answers.specs.Runs
pub use Rattle.script_answers.specs.Storms
pub use Rattle.script_answers.specs.Top
pub mod Doing
