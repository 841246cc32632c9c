-- What holds at each turn of the loops of `compaction::has_outdated`.
use Rattle.std.proofs.Common.{◌≡◌, take, false}
use Rattle.std.specs.List.{list_any}
use Rattle.log_lines.specs.Newest.{is_outdated}
use Rattle.log_lines.proofs.compaction.has_outdated.Given as goal

-- none of the lines so far is outdated among all
abbrev pub invariant-loop-line : goal.invariant-loop-line
invariant-loop-line l = list_any (λ line. is_outdated l.fn.kind l.lines line) (take l.line-index l.lines) ≡ false
