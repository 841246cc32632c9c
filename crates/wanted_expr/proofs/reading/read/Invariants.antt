-- What holds at each turn of the loops of `reading::read`.
use Rattle.std.proofs.Common.{◌≡◌, ◌≤◌, ℕ, [], List, Ok, length}
use Rattle.wanted_expr.specs.declared.lexeme.Lexeme.{Lexeme}
use Rattle.wanted_expr.specs.Expressions.{Reads}
use Rattle.wanted_expr.specs.Reading.{Awaiting, IsCounted, reading_state, run}
use Rattle.wanted_expr.proofs.reading.read.Given as goal

-- some lexemes stand before the rest, and lead to this state
abbrev pub invariant-loop-reading : goal.invariant-loop-reading
invariant-loop-reading l = (length l.rest ≤ length l.text) × IsCounted l.reading × ((read : List (ℕ × Lexeme)) × Reads (length l.text) l.text read l.rest × (run read (Awaiting []) ≡ Ok (reading_state l.reading)))

abbrev pub decreases-loop-reading : goal.decreases-loop-reading
decreases-loop-reading l = length l.rest
