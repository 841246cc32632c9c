-- What the proof of `reading::pop_pending` needs beside the tactics.
use Rattle.std.proofs.Common.{[], ap, sym, ◌∙◌}
use Rattle.wanted_expr.specs.Reading.{above, has_pending}
use Rattle.wanted_expr.proofs.StackLemmas.{popped_pending}
use Rattle.wanted_expr.proofs.reading.pop_pending.Goals as goal

pub returns-then-has_pending-clause-pending : goal.returns-then-has_pending-clause-pending
returns-then-has_pending-clause-pending c = popped_pending c.args.stack.now.items c.pop.new.self.items c.pop.result c.pop.ensures.items (ap (λ w. has_pending (above [] w)) (sym c.deref.ensures.value) ∙ (sym c.has_pending.ensures ∙ c.if-has_pending.true))
