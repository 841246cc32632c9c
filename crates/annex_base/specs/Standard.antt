-- What contracts see of a reader or a writer of std that serves as a source or a sink.
use Rattle.std.specs.Prelude.{ℕ, List}
use Rattle.std.specs.declared.option.Option.{Option}

-- the bytes that the reader or the writer itself tells, and the count of faults
pub record StandardState : Type 0 where
  pub known : Option (List ℕ)
  pub faults : ℕ
