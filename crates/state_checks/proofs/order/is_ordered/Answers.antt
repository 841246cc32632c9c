-- What the proof of `order::is_ordered` needs beside the tactics.
use Rattle.std.proofs.Common.{Option, ap, sym, ◌∙◌}
use Rattle.state_checks.specs.Moments.{is_ordered_at}
use Rattle.state_checks.specs.declared.order.Moment.{Moment}
use Rattle.state_checks.proofs.CheckLemmas.{ordered_same}
use Rattle.state_checks.proofs.order.is_ordered.Goals as goal

pub returns : goal.returns
returns c = λ was is.
    c.is_ordered_at.ensures ∙ ap (λ (m : Option Moment). is_ordered_at m c.args.entry.now) (sym is) ∙ ordered_same was c.args.entry.now
