-- What holds at each turn of the loops of `contents::Contents::new`.
use Rattle.std.proofs.Common.{◌≡◌, ℕ, List, false, length}
use Rattle.report_tables.specs.Contents.{count_of, knows}
use Rattle.report_tables.proofs.contents.Contents.new.Given as goal

abbrev pub invariant-loop : goal.invariant-loop
invariant-loop l = (length l.sets.items ≡ l.counter) × ((r : ℕ) (key : List ℕ) → knows l.sets.items r key ≡ false) × ((r : ℕ) → count_of l.sets.items r ≡ 0)
