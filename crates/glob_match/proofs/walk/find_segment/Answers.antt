-- What the proof of `walk::find_segment` needs beside the tactics.
use Rattle.std.proofs.Common.{◌∙◌}
use Rattle.std.specs.Str.{chars}
use Rattle.glob_match.proofs.WalkLemmas.{find_here}
use Rattle.glob_match.proofs.walk.find_segment.Goals as goal

pub returns-in-Some : goal.returns-in-Some
returns-in-Some c = find_here c.args.items.now (chars c.loop-found.text.now) (c.in-Some.found.0.now, chars c.in-Some.found.1.now) c.in-Some.ensures ∙ c.loop-found.invariant.0
