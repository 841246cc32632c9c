-- What holds at each turn of the loops of `branches::Branches::new`.
use Rattle.std.proofs.Common.{◌≡◌, ℕ, [], length}
use Rattle.std.specs.List.{slice_index_or}
use Rattle.report_tables.proofs.branches.Branches.new.Given as goal

abbrev pub invariant-loop : goal.invariant-loop
invariant-loop l = (length l.branches.items ≡ l.counter) × ((r : ℕ) → slice_index_or l.branches.items r [] ≡ [])
