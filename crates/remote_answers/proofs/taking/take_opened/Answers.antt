-- What the proof of `remote_taking::take_opened` needs beside the tactics.
use Rattle.std.proofs.Common.{None, refl, sym}
use Rattle.std.proofs.lemmas.Result.{IfOk-weaker}
use Rattle.drop_phases.specs.Doing.{Takes}
use Rattle.remote_requests.specs.Remote.{ShutsRemote}
use Rattle.drop_phases.specs.Working.{turn_in}
use Rattle.remote_answers.proofs.Losses.{lost_does, shuts_speaks}
use Rattle.drop_phases.proofs.Unexpected.{opens_else}
use Rattle.remote_requests.proofs.RemoteBegun.{shuts_gone}
use Rattle.remote_requests.proofs.Apart.{asks_on, shuts_stays}
use Rattle.remote_answers.proofs.taking.take_opened.Goals as goal

pub returns-in_default : goal.returns-in_default
returns-in_default c =
    let w = c.args.worker.now in
    record {
      does = IfOk-weaker c.shut.result (ShutsRemote c.args.target c.args.peer w c.shut.new.worker) (Takes c.args.time c.args.peer c.args.message.now w c.shut.new.worker) (λ out is x rows p f time comes.
          lost_does x rows p w c.shut.new.worker f c.args.target c.args.peer c.args.message.now out c.requires.remote is comes (λ rest. rw c.requires.at refl) (rw c.requires.at refl)
          (λ rest. rw c.requires.at (sym (opens_else (turn_in x rows p None rest w) f c.args.peer c.args.peer c.args.message.now refl c.in_default.not-AuthSuccess)))) c.shut.ensures.shuts;
      speaks = shuts_speaks w c.shut.new.worker c.args.target c.args.peer c.shut.result c.shut.ensures.shuts;
      begun = shuts_gone w c.shut.new.worker c.args.target c.args.peer c.shut.result c.shut.ensures.shuts;
      apart = shuts_stays c.args.target c.args.peer w c.shut.new.worker c.shut.result c.shut.ensures.shuts;
      err = c.shut.ensures.err;
    }
