-- What the proof of `remote_taking::take_version` needs beside the tactics.
use Rattle.std.proofs.Common.{Some, None, refl, sym, ap, ◌∙◌}
use Rattle.node_model.specs.Jobs.{learns}
use Rattle.drop_phases.specs.declared.phase.Phase.{Phase}
use Rattle.drop_phases.specs.Working.{phase_as, turn_in, work_of}
use Rattle.remote_answers.proofs.Feedings.{lost_takes}
use Rattle.drop_phases.proofs.Greetings.{learns_else}
use Rattle.remote_answers.proofs.Losses.{shuts_speaks}
use Rattle.drop_phases.proofs.Unexpected.{greets_else}
use Rattle.remote_requests.proofs.RemoteBegun.{shuts_gone}
use Rattle.remote_requests.proofs.Apart.{shuts_stays}
use Rattle.remote_answers.proofs.taking.take_version.Goals as goal

pub returns-in-Version-clause-does : goal.returns-in-Version-clause-does
returns-in-Version-clause-does g c = rw c.in-Version.is c.greet.ensures.does

pub returns-in_default : goal.returns-in_default
returns-in_default g c =
    let w = c.args.worker.now in
    record {
      does = lost_takes (g.H.Here.reading c.args.here.now) (g.H.Here.ends c.args.here.now) c.args.time w c.shut.new.worker c.args.target c.args.peer c.args.message.now c.shut.result c.requires.remote c.shut.ensures.shuts
          (λ rest f line. ap (λ (ph : Phase). learns (work_of rest w) (phase_as ph) (Some f)) c.requires.at ∙ learns_else (work_of rest w) f c.args.peer c.args.message.now line c.in_default.not-Version)
          (rw c.requires.at refl)
          (λ x rows p rest f. rw c.requires.at (sym (greets_else (turn_in x rows p None rest w) f c.args.peer c.args.peer c.args.message.now refl c.in_default.not-Version)));
      speaks = shuts_speaks w c.shut.new.worker c.args.target c.args.peer c.shut.result c.shut.ensures.shuts;
      begun = shuts_gone w c.shut.new.worker c.args.target c.args.peer c.shut.result c.shut.ensures.shuts;
      apart = shuts_stays c.args.target c.args.peer w c.shut.new.worker c.shut.result c.shut.ensures.shuts;
      err = c.shut.ensures.err;
    }
