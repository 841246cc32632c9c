-- What holds at each turn of the loops of `place::lines_end_well`.
use Rattle.std.proofs.Common.{◌≡◌, [], length}
use Rattle.branch_bundle.specs.Parts.{ends_well}
use Rattle.branch_bundle.proofs.place.lines_end_well.Given as goal

abbrev pub invariant-loop-next : goal.invariant-loop-next
invariant-loop-next l = ends_well [] [] l.text l.left ≡ ends_well l.line [] l.rest l.left

abbrev pub decreases-loop-next : goal.decreases-loop-next
decreases-loop-next l = length l.rest
