-- What the proof of `endings::ends_as` needs beside the tactics.
use Rattle.std.proofs.Common.{sym, ap, None, ◌∙◌}
use Rattle.step_judging.specs.Same.{same_effect}
use Rattle.step_judging.specs.Rules.{effect_of}
use Rattle.job_makes.specs.Turns.{turn_in}
use Rattle.state_jobs.specs.Phases.{ending_of}
use Rattle.state_jobs.specs.declared.phase.Ending.{Ending}
use Rattle.node_model.specs.JobStep.{ends}
use Rattle.step_makes.proofs.endings.ends_as.Goals as goal

pub returns-in-Here : goal.returns-in-Here
returns-in-Here c = λ s st. c.ends_got.ensures s st ∙ ap (λ (e : Ending). same_effect (ends (turn_in c.args.turn.now s st) None (ending_of e)) (effect_of c.args.turn.now.told.now)) (sym c.in-Here.is)

pub returns-in-Got : goal.returns-in-Got
returns-in-Got c = λ s st. c.ends_got-in-Got.ensures s st ∙ ap (λ (e : Ending). same_effect (ends (turn_in c.args.turn.now s st) None (ending_of e)) (effect_of c.args.turn.now.told.now)) (sym c.in-Got.is)

pub returns-in-Copied : goal.returns-in-Copied
returns-in-Copied c = λ s st. c.ends_as.ensures s st ∙ ap (λ (e : Ending). same_effect (ends (turn_in c.args.turn.now s st) None (ending_of e)) (effect_of c.args.turn.now.told.now)) (sym c.in-Copied.is)

pub returns-in-Lost : goal.returns-in-Lost
returns-in-Lost c = λ s st. c.ends_refused.ensures s st ∙ ap (λ (e : Ending). same_effect (ends (turn_in c.args.turn.now s st) None (ending_of e)) (effect_of c.args.turn.now.told.now)) (sym c.in-Lost.is)

pub returns-in-OldProtocol : goal.returns-in-OldProtocol
returns-in-OldProtocol c = λ s st. c.ends_old.ensures s st ∙ ap (λ (e : Ending). same_effect (ends (turn_in c.args.turn.now s st) None (ending_of e)) (effect_of c.args.turn.now.told.now)) (sym c.in-OldProtocol.is)

pub returns-in-DropFault : goal.returns-in-DropFault
returns-in-DropFault c = λ s st. c.ends_refused-in-DropFault.ensures s st ∙ ap (λ (e : Ending). same_effect (ends (turn_in c.args.turn.now s st) None (ending_of e)) (effect_of c.args.turn.now.told.now)) (sym c.in-DropFault.is)

pub returns-in-TransferFault : goal.returns-in-TransferFault
returns-in-TransferFault c = λ s st. c.ends_untransferred.ensures s st ∙ ap (λ (e : Ending). same_effect (ends (turn_in c.args.turn.now s st) None (ending_of e)) (effect_of c.args.turn.now.told.now)) (sym c.in-TransferFault.is)

pub returns-in-Closed : goal.returns-in-Closed
returns-in-Closed c = λ s st. c.ends_untransferred-in-Closed.ensures s st ∙ ap (λ (e : Ending). same_effect (ends (turn_in c.args.turn.now s st) None (ending_of e)) (effect_of c.args.turn.now.told.now)) (sym c.in-Closed.is)

pub returns-in-Busy : goal.returns-in-Busy
returns-in-Busy c = λ s st. c.ends_untransferred-in-Busy.ensures s st ∙ ap (λ (e : Ending). same_effect (ends (turn_in c.args.turn.now s st) None (ending_of e)) (effect_of c.args.turn.now.told.now)) (sym c.in-Busy.is)

pub returns-in-Rejected : goal.returns-in-Rejected
returns-in-Rejected c = λ s st. c.ends_untransferred-in-Rejected.ensures s st ∙ ap (λ (e : Ending). same_effect (ends (turn_in c.args.turn.now s st) None (ending_of e)) (effect_of c.args.turn.now.told.now)) (sym c.in-Rejected.is)
