-- What holds at each turn of the loops of `whole::read_whole`.
use Rattle.std.proofs.Common.{◌≡◌, ◌+◌, ◌-◌, ◌≤◌, length}
use Rattle.std.specs.Io.KnownBytes.{prepend_known}
use Rattle.script_answers.proofs.whole.read_whole.Given as goal

-- the text is what the source has lost, at most a piece past the limit, and the source's count has stayed
abbrev pub invariant-loop-room : goal.invariant-loop-room
invariant-loop-room g l = record {
  read : g.S.Source.left l.fn.source ≡ prepend_known l.text.items (g.S.Source.left l.source);
  few : length l.text.items ≤ l.fn.limit + 4096;
  kept : g.S.Source.faults l.source ≡ g.S.Source.faults l.fn.source;
}

abbrev pub decreases-loop-room : goal.decreases-loop-room
decreases-loop-room g l = l.fn.limit + 1 - length l.text.items
