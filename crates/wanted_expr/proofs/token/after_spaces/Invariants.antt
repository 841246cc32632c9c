-- What holds at each turn of the loops of `token::after_spaces`.
use Rattle.std.proofs.Common.{◌≤◌, ◌≡◌, length}
use Rattle.wanted_expr.specs.Pieces.{after_spaces}
use Rattle.wanted_expr.proofs.token.after_spaces.Given as goal

abbrev pub invariant-loop-first : goal.invariant-loop-first
invariant-loop-first l = (after_spaces l.bytes ≡ after_spaces l.rest) × (length l.rest ≤ length l.bytes)

abbrev pub decreases-loop-first : goal.decreases-loop-first
decreases-loop-first l = length l.rest
