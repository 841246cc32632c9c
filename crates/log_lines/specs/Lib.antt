-- The definitions of this crate, and those of `log_grammar`.
pub use Rattle.log_grammar.specs.LineText
pub use Rattle.log_grammar.specs.Files
pub use Rattle.log_grammar.specs.Reading
pub mod Newest
pub mod Index
pub mod Latest
pub mod Keeping
