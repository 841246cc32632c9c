-- What the proof of `reading::before_group` needs beside the tactics.
use Rattle.std.proofs.Common.{sym, ◌∙◌, refl, length}
use Rattle.wanted_expr.proofs.StackLemmas.{group_last, no_group_last}
use Rattle.wanted_expr.proofs.reading.before_group.Goals as goal

pub returns-then-is_group : goal.returns-then-is_group
returns-then-is_group c = group_last c.args.stack.now c.in-Some.rest.now c.in-Some.last.now (length c.in-Some.rest.now) c.in-Some.ensures.cases.0 refl (sym c.is_group.ensures ∙ c.if-is_group.true)

pub returns-else-is_group : goal.returns-else-is_group
returns-else-is_group c = no_group_last c.args.stack.now c.in-Some.rest.now c.in-Some.last.now c.in-Some.ensures.cases.0 (sym c.is_group.ensures ∙ c.if-is_group.false)
