-- The definitions of this crate, and those of the commands that it reads.
pub mod Script
pub mod Laws
pub mod Preconditions
pub mod Numbering
pub use Rattle.script_forms.specs.Context
pub use Rattle.script_forms.specs.Changes
pub use Rattle.script_forms.specs.Verify
pub use Rattle.script_forms.specs.Steps
pub use Rattle.script_forms.specs.Forms
pub use Rattle.script_forms.specs.Limits
