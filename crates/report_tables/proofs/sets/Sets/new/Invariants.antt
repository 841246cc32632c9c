-- What holds at each turn of the loops of `sets::Sets::new`.
use Rattle.std.proofs.Common.{◌≡◌, ℕ, None, length}
use Rattle.std.specs.List.{slice_index_or}
use Rattle.report_tables.proofs.sets.Sets.new.Given as goal

abbrev pub invariant-loop : goal.invariant-loop
invariant-loop l = (length l.read.items ≡ l.counter) × ((r : ℕ) → slice_index_or l.read.items r None ≡ None)
