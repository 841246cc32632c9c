-- What the proof of `slots::job_forced` needs beside the tactics.
use Rattle.std.proofs.Common.{sym, ◌∙◌}
use Rattle.step_makes.proofs.slots.job_forced.Goals as goal

pub judges_forced-requires : goal.judges_forced-requires
judges_forced-requires c = sym c.is_judging.ensures ∙ c.if-is_judging.true

pub is_forced-requires : goal.is_forced-requires
is_forced-requires c = sym c.is_judging.ensures ∙ c.if-is_judging.false

pub returns-else-is_judging : goal.returns-else-is_judging
returns-else-is_judging c = λ s st of only. c.is_forced.ensures s st tt
