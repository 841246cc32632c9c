-- What holds at each turn of the loops of `run::put_entries`.
use Rattle.std.proofs.Common.{◌≡◌, ◌++◌, [], take}
use Rattle.journal_text.specs.Journal.{entries_text}
use Rattle.journal_text.proofs.run.put_entries.Given as goal

abbrev pub invariant-loop-place : goal.invariant-loop-place
invariant-loop-place l = l.out.items ≡ l.fn.out.items ++ entries_text l.repos [] (take l.place l.entries)
