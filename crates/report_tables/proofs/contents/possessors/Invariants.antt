-- What holds at each turn of the loops of `contents::possessors`.
use Rattle.std.proofs.Common.{◌≡◌, List, filter}
use Rattle.std.specs.List.{range_with_len}
use Rattle.run_data.specs.declared.entry.Entry.{Entry}
use Rattle.report_tables.specs.Contents.{Tracks}
use Rattle.run_model.specs.Past.{present}
use Rattle.report_tables.proofs.contents.possessors.Given as goal

abbrev pub invariant-loop-repo : goal.invariant-loop-repo
invariant-loop-repo l = (past : List Entry) → Tracks l.contents l.repositories past → l.numbers.items ≡ filter (λ r. present past r l.key) (range_with_len 0 l.repo)
