-- What holds at each turn of the loops of `walk::find_segment`.
use Rattle.std.proofs.Common.{◌≡◌, length}
use denote.Shadow.{shadow}
use denote.Text.{Utf8}
use Rattle.std.specs.Str.{chars}
use Rattle.glob_match.specs.Walk.{find_at}
use Rattle.glob_match.proofs.walk.find_segment.Given as goal

abbrev pub invariant-loop-found : goal.invariant-loop-found
invariant-loop-found l = (find_at l.items (chars l.text) ≡ find_at l.items (chars l.fn.text)) × shadow (Utf8 l.text)

abbrev pub decreases-loop-found : goal.decreases-loop-found
decreases-loop-found l = length (chars l.text)
