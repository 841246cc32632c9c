-- What holds at each turn of the loops of `walk::segment`.
use Rattle.std.proofs.Common.{◌≡◌, length}
use denote.Shadow.{shadow}
use denote.Text.{Utf8}
use Rattle.std.specs.Str.{chars}
use Rattle.glob_match.specs.Walk.{segment_at}
use Rattle.glob_match.proofs.walk.segment.Given as goal

abbrev pub invariant-loop-item : goal.invariant-loop-item
invariant-loop-item l = (segment_at l.items (chars l.text) ≡ segment_at l.fn.items (chars l.fn.text)) × shadow (Utf8 l.text)

abbrev pub decreases-loop-item : goal.decreases-loop-item
decreases-loop-item l = length l.items
