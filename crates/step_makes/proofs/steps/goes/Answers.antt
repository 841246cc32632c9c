-- What the proof of `steps::goes` needs beside the tactics.
use Rattle.std.proofs.Common.{sym, ap, None, ℕ, ◌∙◌, ◌≡◌}
use Rattle.step_makes.proofs.StepLemmas.{closed_goes}
use Rattle.step_judging.specs.Same.{same_effect}
use Rattle.step_judging.specs.Rules.{effect_of}
use Rattle.job_makes.specs.Turns.{turn_in}
use Rattle.std.specs.Option.{option_copied}
use Rattle.state_jobs.specs.Phases.{phase_of, part_of}
use Rattle.node_model.specs.SetUp.{SetUp}
use Rattle.node_model.specs.State.{State}
use Rattle.std.proofs.lemmas.Result.{IfOk-weaker}
use Rattle.step_makes.specs.Knowledge.{IsReadBy, IsTurnOf}
use Rattle.state_jobs.specs.declared.phase.Phase.{Phase}
use Rattle.node_model.specs.Look.{Effect}
use Rattle.node_model.specs.JobStep.{ends, talk}
use Rattle.node_model.specs.DropStep.{removal_outcome}
use Rattle.node_model.specs.Jobs.{side_of}
use Rattle.node_model.specs.TransferStep.{puts_piece}
use Rattle.node_model.specs.Turns.{first_step, goes, next_step}
use Rattle.step_makes.proofs.steps.goes.Goals as goal

pub returns-in-Fresh : goal.returns-in-Fresh
returns-in-Fresh c =
    let x = c.args.turn.now in
    IfOk-weaker c.first_step.result
    (λ b. (s : SetUp) (st : State) → IsTurnOf x s st → IsReadBy x (option_copied c.args.knowing) s st → b ≡ same_effect (first_step (turn_in x s st) (part_of x.work.now.part)) (effect_of x.told.now))
    (λ b. (s : SetUp) (st : State) → IsTurnOf x s st → IsReadBy x (option_copied c.args.knowing) s st → b ≡ same_effect (goes (turn_in x s st) (phase_of x.work.now.phase)) (effect_of x.told.now))
    (λ b told s st of read. told s st of read ∙ ap (λ (p : Phase). same_effect (goes (turn_in x s st) (phase_of p)) (effect_of x.told.now)) (sym c.in-Fresh.is))
    c.first_step.ensures

pub returns-in-Next : goal.returns-in-Next
returns-in-Next c =
    let x = c.args.turn.now in
    IfOk-weaker c.next_step.result
    (λ b. (s : SetUp) (st : State) → IsReadBy x (option_copied c.args.knowing) s st → b ≡ same_effect (next_step (turn_in x s st) (part_of x.work.now.part)) (effect_of x.told.now))
    (λ b. (s : SetUp) (st : State) → IsTurnOf x s st → IsReadBy x (option_copied c.args.knowing) s st → b ≡ same_effect (goes (turn_in x s st) (phase_of x.work.now.phase)) (effect_of x.told.now))
    (λ b told s st of read. told s st read ∙ ap (λ (p : Phase). same_effect (goes (turn_in x s st) (phase_of p)) (effect_of x.told.now)) (sym c.in-Next.is))
    c.next_step.ensures

pub returns-in-PutsBytes : goal.returns-in-PutsBytes
returns-in-PutsBytes c = λ s st of read.
    c.puts_piece.ensures s st
    ∙ ap (λ (n : ℕ). same_effect (puts_piece (turn_in c.args.turn.now s st) c.in-PutsBytes.peer c.in-PutsBytes.at n) (effect_of c.args.turn.now.told.now)) c.piece_of.ensures
    ∙ ap (λ (p : Phase). same_effect (goes (turn_in c.args.turn.now s st) (phase_of p)) (effect_of c.args.turn.now.told.now)) (sym c.in-PutsBytes.is)

pub returns-in-PutsWord : goal.returns-in-PutsWord
returns-in-PutsWord c = λ s st of read. c.says_to.ensures s st (talk (turn_in c.args.turn.now s st)) (c.talks.ensures s st) ∙ ap (λ (p : Phase). same_effect (goes (turn_in c.args.turn.now s st) (phase_of p)) (effect_of c.args.turn.now.told.now)) (sym c.in-PutsWord.is)

pub returns-in-Removed : goal.returns-in-Removed
returns-in-Removed c =
    let x = c.args.turn.now in
    IfOk-weaker c.ends_removed.result
    (λ b. (s : SetUp) (st : State) → IsReadBy x (option_copied c.args.knowing) s st → b ≡ same_effect (ends (turn_in x s st) None (removal_outcome (side_of (turn_in x s st).w) (turn_in x s st))) (effect_of x.told.now))
    (λ b. (s : SetUp) (st : State) → IsTurnOf x s st → IsReadBy x (option_copied c.args.knowing) s st → b ≡ same_effect (goes (turn_in x s st) (phase_of x.work.now.phase)) (effect_of x.told.now))
    (λ b told s st of read. told s st read ∙ ap (λ (p : Phase). same_effect (goes (turn_in x s st) (phase_of p)) (effect_of x.told.now)) (sym c.in-Removed.is))
    c.ends_removed.ensures

pub returns-in-Denied : goal.returns-in-Denied
returns-in-Denied c = λ s st of read. c.denied.ensures s st ∙ ap (λ (p : Phase). same_effect (goes (turn_in c.args.turn.now s st) (phase_of p)) (effect_of c.args.turn.now.told.now)) (sym c.in-Denied.is)

pub returns-in-Late : goal.returns-in-Late
returns-in-Late c = λ s st of read. c.ends_late.ensures s st read ∙ ap (λ (p : Phase). same_effect (goes (turn_in c.args.turn.now s st) (phase_of p)) (effect_of c.args.turn.now.told.now)) (sym c.in-Late.is)

pub returns-in-Ends : goal.returns-in-Ends
returns-in-Ends c = λ s st of read. c.ends_as.ensures s st ∙ ap (λ (p : Phase). same_effect (goes (turn_in c.args.turn.now s st) (phase_of p)) (effect_of c.args.turn.now.told.now)) (sym c.in-Ends.is)

pub returns-in_default : goal.returns-in_default
returns-in_default c = λ s st of read.
    c.ends_untransferred.ensures s st
    ∙ ap (λ (m : Effect). same_effect m (effect_of c.args.turn.now.told.now))
    (closed_goes (turn_in c.args.turn.now s st) c.args.turn.now.work.now.phase c.in_default.not-Fresh c.in_default.not-Next c.in_default.not-PutsBytes c.in_default.not-PutsWord c.in_default.not-Removed c.in_default.not-Denied c.in_default.not-Late c.in_default.not-Ends)
