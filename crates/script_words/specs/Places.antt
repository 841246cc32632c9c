-- A line with a place in it, and a word of a line (own).
use Rattle.std.specs.Prelude.{ℕ, List}

-- a line, and the place up to which it is read
pub record Cursor : Type 0 where
  pub line : List ℕ
  pub place : ℕ

-- a word of a line: the place of its first byte, what it says without quotes, and the place behind it
pub record LineWord : Type 0 where
  pub place : ℕ
  pub text : List ℕ
  pub after : ℕ
