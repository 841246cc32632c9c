-- What holds at each turn of the loops of `entries::read_entries`.
use Rattle.std.proofs.Common.{◌≡◌, ◌≤◌, ℕ, [], length, reverse}
use Rattle.journal_kinds.specs.Begun.{AreBegun}
use Rattle.journal_reading.specs.Lines.{tree_at, tree_from}
use Rattle.journal_reading.specs.Reading.{entries_in}
use Rattle.journal_reader.specs.Steps.{lines_in}
use Rattle.journal_reader.proofs.PushLemmas.{behind_these}
use Rattle.journal_reader.proofs.entries.read_entries.Given as goal

abbrev pub invariant-loop-left : goal.invariant-loop-left
invariant-loop-left l = record {
  begun : AreBegun (reverse l.entries) l.begun;
  tree : (n : ℕ) → length l.entries ≤ n → tree_at l.marks n ≡ tree_from l.tree l.later n;
  entries : entries_in l.count l.repos l.marks [] (lines_in l.text) ≡ behind_these l.entries (entries_in l.left l.repos l.marks (reverse l.entries) (lines_in l.rest));
}

abbrev pub decreases-loop-left : goal.decreases-loop-left
decreases-loop-left l = l.left
