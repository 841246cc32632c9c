-- What holds at each turn of the loops of `token::word_of`.
use Rattle.std.proofs.Common.{◌≤◌, ◌<◌, ◌≡◌, ◌⊎◌, length, None}
use Rattle.wanted_expr.specs.Pieces.{word_at, after_bytes}
use Rattle.wanted_expr.proofs.token.word_of.Given as goal

-- before the first byte no quote is open
abbrev pub invariant-loop-first : goal.invariant-loop-first
invariant-loop-first l = (length l.rest ≤ l.total) × (((l.rest ≡ l.bytes) × (l.quote ≡ None)) ⊎ (length l.rest < length l.bytes)) × (word_at l.total None l.bytes ≡ after_bytes l.word.items (word_at l.total l.quote l.rest))

abbrev pub decreases-loop-first : goal.decreases-loop-first
decreases-loop-first l = length l.rest
