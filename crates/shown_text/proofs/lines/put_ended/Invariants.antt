-- What holds at each turn of the loops of `lines::put_ended`.
use Rattle.std.proofs.Common.{◌≡◌, ◌≤◌, ◌⊎◌, ◌++◌, min, length}
use Rattle.shown_text.specs.Lines.{outcome_lines}
use Rattle.shown_text.proofs.lines.put_ended.Given as goal

abbrev pub invariant-loop-place : goal.invariant-loop-place
invariant-loop-place l = (l.out.items ≡ l.fn.out.items ++ outcome_lines l.run l.syncs l.fn.from l.place) × ((l.place ≡ l.fn.from) ⊎ (l.place ≤ min l.fn.upto (length l.entries)))
