-- What holds at each turn of the loops of `word::last_colon`.
use Rattle.wanted_expr.specs.Finding.{IsLastColon}
use Rattle.wanted_expr.proofs.word.last_colon.Given as goal

abbrev pub invariant-loop-i : goal.invariant-loop-i
invariant-loop-i l = IsLastColon l.value l.i l.last
