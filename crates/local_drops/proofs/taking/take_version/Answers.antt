-- A version, or anything else.
use Rattle.std.proofs.Common.{Some, None, refl, sym, ap, ◌∙◌}
use Rattle.std.proofs.lemmas.Result.{IfOk-weaker}
use Rattle.drop_phases.specs.Doing.{Shuts, Takes}
use Rattle.node_model.specs.Jobs.{learns}
use Rattle.drop_phases.specs.declared.phase.Phase.{Phase}
use Rattle.drop_phases.specs.Working.{phase_as, turn_in, work_of}
use Rattle.drop_phases.proofs.Greetings.{learns_else}
use Rattle.drop_phases.proofs.Takings.{lined, shut_does}
use Rattle.drop_phases.proofs.Unexpected.{greets_else}
use Rattle.local_drops.proofs.taking.take_version.Goals as goal

pub returns-in-Version-clause-does : goal.returns-in-Version-clause-does
returns-in-Version-clause-does c = rw c.in-Version.is c.greet.ensures.does

pub returns-in_default-clause-does : goal.returns-in_default-clause-does
returns-in_default-clause-does c =
    let w = c.args.worker.now in
    IfOk-weaker c.shut.result (Shuts c.args.peer w c.shut.new.worker) (Takes c.args.time c.args.peer c.args.message.now w c.shut.new.worker) (λ out is x rows p f time comes.
    shut_does x rows p w c.shut.new.worker f c.args.peer c.args.message.now w.version out is.kind comes
    (λ rest. ap (λ (ph : Phase). learns (work_of rest w) (phase_as ph) (Some f)) c.requires.at ∙ (learns_else (work_of rest w) f c.args.peer c.args.message.now (lined f.body c.args.message.now comes.is) c.in_default.not-Version)) (rw c.requires.at refl) c.requires.local is.sends is.next
    (λ rest. rw c.requires.at (sym (greets_else (turn_in x rows p None rest w) f c.args.peer c.args.peer c.args.message.now refl c.in_default.not-Version)))) c.shut.ensures.shuts
