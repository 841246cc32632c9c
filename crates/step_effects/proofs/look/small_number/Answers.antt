-- What the proof of `look::small_number` needs beside the tactics.
use Rattle.std.proofs.Common.{sym, ap, ◌∙◌}
use Rattle.step_judging.specs.Telling.{small_part}
use Rattle.step_effects.proofs.PartLemmas.{great_part}
use Rattle.step_effects.proofs.look.small_number.Goals as goal

pub returns-then-value-clause-value : goal.returns-then-value-clause-value
returns-then-value-clause-value c = sym (great_part c.loop-digit.value c.loop-digit.left.now c.if-value.true) ∙ ap small_part c.loop-digit.invariant
