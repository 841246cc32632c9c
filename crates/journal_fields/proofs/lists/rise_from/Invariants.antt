-- What holds at each turn of the loops of `lists::rise_from`.
use Rattle.std.proofs.Common.{◌≡◌, length}
use Rattle.journal_reading.specs.Fields.{rises_from}
use Rattle.journal_fields.proofs.lists.rise_from.Given as goal

abbrev pub invariant-loop-next : goal.invariant-loop-next
invariant-loop-next l = rises_from l.first l.rest ≡ rises_from l.last l.left

abbrev pub decreases-loop-next : goal.decreases-loop-next
decreases-loop-next l = length l.left
