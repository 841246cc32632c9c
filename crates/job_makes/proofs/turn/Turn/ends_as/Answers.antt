-- What the proof of `turn::Turn::ends_as` needs beside the tactics.
use Rattle.std.proofs.Common.{sym, ◌∙◌}
use Rattle.job_makes.proofs.turn.Turn.ends_as.Goals as goal

pub returns : goal.returns
returns c = λ s st. c.ends.ensures s st c.args.outcome.now (c.is_told-is.ensures ∙ sym (c.ended.ensures s st c.args.outcome.now)) c.is_lost_ordered.ensures
