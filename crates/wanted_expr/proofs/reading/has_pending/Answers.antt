-- What the proof of `reading::has_pending` needs beside the tactics.
use Rattle.std.proofs.Common.{sym, ap, ◌∙◌}
use Rattle.std.specs.Prelude.{not}
use Rattle.wanted_expr.proofs.StackLemmas.{has_last}
use Rattle.wanted_expr.proofs.reading.has_pending.Goals as goal

pub returns-in-Some : goal.returns-in-Some
returns-in-Some c = ap not c.is_group.ensures ∙ sym (has_last c.args.stack.now c.in-Some.field-0-1.now c.in-Some.last.now c.in-Some.ensures.cases.0)
