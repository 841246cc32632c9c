-- What holds at each turn of the loops of `reading::first_paren`.
use Rattle.std.proofs.Common.{◌≡◌, [], List, length}
use Rattle.wanted_expr.specs.Reading.{Pending, above, open_places}
use Rattle.wanted_expr.proofs.reading.first_paren.Given as goal

-- no `(` stands before the rest
abbrev pub invariant-loop-first : goal.invariant-loop-first
invariant-loop-first l = (k : List Pending) × (open_places k ≡ []) × (above [] l.stack ≡ above k l.rest)

abbrev pub decreases-loop-first : goal.decreases-loop-first
decreases-loop-first l = length l.rest
