-- What holds at each turn of the loops of `compaction::compact`.
use Rattle.std.proofs.Common.{◌≡◌, filter, not}
use Rattle.log_lines.specs.Newest.{is_outdated}
use Rattle.log_lines.proofs.compaction.compact.Given as goal

-- the lines so far without those that are outdated among all
abbrev pub invariant-loop-line : goal.invariant-loop-line
invariant-loop-line l = l.kept.items ≡ filter (λ line. not (is_outdated l.fn.kind l.fn.lines.items line)) l.yielded
