-- What holds at each turn of the loops of `reading::has_dashes`.
use Rattle.std.proofs.Common.{◌≡◌, ◌&&◌, ◌||◌, drop}
use Rattle.annex_base.specs.Lines.{dash}
use Rattle.annex_key.specs.Reading.{has_dashes, begins}
use Rattle.annex_key.proofs.reading.has_dashes.Given as goal

-- what is left has them, or begins with the second one
abbrev pub invariant-loop-b : goal.invariant-loop-b
invariant-loop-b l = has_dashes l.text ≡ ((l.after_dash && begins dash (drop l.b-index l.text)) || has_dashes (drop l.b-index l.text))
