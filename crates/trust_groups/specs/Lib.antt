-- The definitions of this crate, and those of globs, of sets of lines and of what is wanted that the crates above cite.
pub mod Adding
pub mod Alike
pub mod Claims
pub mod Exprs
pub mod Globs
pub mod Kept
pub mod Reads
pub mod Settings
pub mod View
pub use Rattle.glob_match.specs.Numbers
pub use Rattle.union_merge.specs.LineSet
pub use Rattle.wanted_expr.specs.Wanted
