-- What holds at each turn of the loops of `entry::put_added`.
use Rattle.std.proofs.Common.{◌≡◌, ◌++◌, take}
use Rattle.std.specs.List.{flat_map}
use Rattle.journal_text.specs.Journal.{added_text}
use Rattle.journal_text.proofs.entry.put_added.Given as goal

abbrev pub invariant-loop-line : goal.invariant-loop-line
invariant-loop-line l = l.out.items ≡ l.fn.out.items ++ flat_map added_text (take l.line-index l.lines)
