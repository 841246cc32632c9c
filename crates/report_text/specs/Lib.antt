-- The definitions of this crate, and those of the tables and lines that it stands on.
pub mod Report
pub use Rattle.report_tables.specs.Before
pub use Rattle.report_tables.specs.Branches
pub use Rattle.report_tables.specs.Walk
pub use Rattle.shown_text.specs.Lines
pub use Rattle.shown_text.specs.Row
pub use Rattle.shown_text.specs.Shown
