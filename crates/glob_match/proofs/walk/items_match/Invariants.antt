-- What holds at each turn of the loops of `walk::items_match`.
use Rattle.std.proofs.Common.{◌≡◌, length, true}
use denote.Shadow.{shadow}
use denote.Text.{Utf8}
use Rattle.std.specs.Str.{chars}
use Rattle.glob_match.specs.Glob.{glob_matches}
use Rattle.glob_match.proofs.WalkLemmas.{stops}
use Rattle.glob_match.proofs.walk.items_match.Given as goal

abbrev pub invariant-loop-after : goal.invariant-loop-after
invariant-loop-after l = (glob_matches l.items (chars l.text) ≡ glob_matches l.fn.items (chars l.fn.text)) × (stops l.items (chars l.text) ≡ true) × shadow (Utf8 l.text)

abbrev pub decreases-loop-after : goal.decreases-loop-after
decreases-loop-after l = length l.items
