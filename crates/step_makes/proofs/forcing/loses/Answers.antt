-- What the proof of `forcing::loses` needs beside the tactics.
use Rattle.std.proofs.Common.{sym, ap, ◌∙◌}
use Rattle.node_model.specs.Rows.{is_lost_ordered}
use Rattle.step_makes.proofs.NeedLemmas.{end_kept}
use Rattle.state_jobs.specs.Phases.{phase_of}
use Rattle.state_jobs.specs.declared.phase.Phase.{Phase}
use Rattle.node_model.specs.Turns.{outcome_of}
use Rattle.step_makes.proofs.forcing.loses.Goals as goal

pub returns-in-Ends : goal.returns-in-Ends
returns-in-Ends c = λ t. c.is_lost.ensures ∙ ap (λ (p : Phase). is_lost_ordered (outcome_of t (phase_of p))) (sym c.in-Ends.is)

pub returns-in_default : goal.returns-in_default
returns-in_default c = λ t. end_kept t c.args.phase c.in_default.not-Ends
