-- What the proof of `walk::segment` needs beside the tactics.
use Rattle.std.proofs.Common.{◌∙◌}
use Rattle.std.specs.Str.{chars}
use Rattle.glob_match.proofs.WalkLemmas.{segment_ends, segment_goes_on}
use Rattle.glob_match.proofs.walk.segment.Goals as goal

pub returns-in-None : goal.returns-in-None
returns-in-None c = segment_ends c.loop-item.items.now (chars c.loop-item.text.now) c.in_default.ensures.cases c.in-None.ensures ∙ c.loop-item.invariant.0

pub returns-in-Some-split_char : goal.returns-in-Some-split_char
returns-in-Some-split_char c = segment_goes_on c.loop-item.items.now (chars c.loop-item.text.now) (c.in-Some-split_char.field-0.0, chars c.in-Some-split_char.field-0.1.now) c.in_default.ensures.cases c.in-Some-split_char.ensures ∙ c.loop-item.invariant.0
