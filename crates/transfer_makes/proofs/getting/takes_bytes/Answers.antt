-- What the proof of `getting::takes_bytes` needs beside the tactics.
use Rattle.std.proofs.Common.{sym, ap, ◌∙◌}
use Rattle.node_model.specs.Look.{Effect}
use Rattle.state_jobs.specs.declared.phase.Phase.{Phase}
use Rattle.node_model.specs.TransferStep.{takes_bytes}
use Rattle.transfer_makes.proofs.Refused.{bytes_refused}
use Rattle.step_judging.specs.Same.{same_effect}
use Rattle.step_judging.specs.Rules.{effect_of}
use Rattle.job_makes.specs.Turns.{turn_in}
use Rattle.state_jobs.specs.Phases.{phase_of}
use Rattle.transfer_makes.proofs.getting.takes_bytes.Goals as goal

pub returns-in-GetsBytes : goal.returns-in-GetsBytes
returns-in-GetsBytes c = λ s st.
    c.takes_piece.ensures s st
    ∙ ap (λ (p : Phase). same_effect (takes_bytes (turn_in c.args.turn.now s st) c.args.frame.now c.args.peer c.args.count (phase_of p)) (effect_of c.args.turn.now.told.now)) (sym c.in-GetsBytes.is)

pub returns-in_default : goal.returns-in_default
returns-in_default c = λ s st.
    c.wrong_message.ensures s st ∙ ap (λ (m : Effect). same_effect m (effect_of c.args.turn.now.told.now)) (bytes_refused (turn_in c.args.turn.now s st) c.args.frame.now c.args.peer c.args.count c.args.phase c.in_default.not-GetsBytes)
