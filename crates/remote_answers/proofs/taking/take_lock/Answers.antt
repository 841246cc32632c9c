-- What the proof of `remote_taking::take_lock` needs beside the tactics.
use Rattle.std.proofs.Common.{ℕ, List, None, refl, sym, ◌∙◌, subst}
use Rattle.std.proofs.lemmas.Result.{IfOk-weaker}
use Rattle.p2p_wire.specs.declared.message.Message.TheVariants as messages
use Rattle.p2p_wire.specs.Streams.{IsLine}
use Rattle.drop_phases.specs.Doing.{Takes}
use Rattle.remote_requests.specs.Remote.{ShutsRemote}
use Rattle.drop_phases.specs.Working.{turn_in}
use Rattle.remote_answers.proofs.Losses.{lost_does, shuts_speaks}
use Rattle.drop_phases.proofs.Takings.{say_does}
use Rattle.drop_phases.proofs.Unexpected.{lock_else}
use Rattle.remote_requests.proofs.RemoteBegun.{shuts_gone}
use Rattle.remote_requests.proofs.Apart.{asks_on, hears_of, shuts_stays}
use Rattle.remote_answers.proofs.taking.take_lock.Goals as goal

pub returns-in_default : goal.returns-in_default
returns-in_default c =
    let w = c.args.worker.now in
    record {
      does = IfOk-weaker c.shut.result (ShutsRemote c.args.target c.args.peer w c.shut.new.worker) (Takes c.args.time c.args.peer c.args.message.now w c.shut.new.worker) (λ out is x rows p f time comes.
          lost_does x rows p w c.shut.new.worker f c.args.target c.args.peer c.args.message.now out c.requires.remote is comes (λ rest. rw c.requires.at refl) (rw c.requires.at refl)
          (λ rest. rw c.requires.at (sym (lock_else (turn_in x rows p None rest w) f c.args.peer c.args.peer c.args.since c.args.message.now c.in_default.not-Success c.in_default.not-Failure)))) c.shut.ensures.shuts;
      speaks = shuts_speaks w c.shut.new.worker c.args.target c.args.peer c.shut.result c.shut.ensures.shuts;
      begun = shuts_gone w c.shut.new.worker c.args.target c.args.peer c.shut.result c.shut.ensures.shuts;
      apart = shuts_stays c.args.target c.args.peer w c.shut.new.worker c.shut.result c.shut.ensures.shuts;
      err = c.shut.ensures.err;
    }

pub returns-in_ok-out-in-Failure-clause-does : goal.returns-in_ok-out-in-Failure-clause-does
returns-in_ok-out-in-Failure-clause-does c = λ x rows p f time comes.
    say_does x rows p c.args.worker.now _ f c.args.peer c.args.message.now c.args.worker.now.version c.in_ok-out-in-Failure.out (rw c.number-in-Failure.ensures at c.in_ok-out-in-Failure.ensures.0) comes (λ rest. rw c.requires.at refl) (rw c.requires.at refl)
    (messages.CheckPresent c.args.worker.now.job.key) (rw (c.in_ok-new-in-Failure.ensures, c.in_ok-key-in-Failure.ensures, c.key-in-Failure.ensures) at c.in_ok-out-in-Failure.ensures.1) (rw c.key.ensures at c.reads_all.ensures.look.0)
    (λ rest. rw (c.requires.at, c.in-Failure.is) refl) (λ rest. rw c.go_to.ensures refl)

pub new-requires : goal.new-requires
new-requires c = subst (λ (k : List ℕ). IsLine (messages.CheckPresent k)) (c.key.ensures ∙ sym (c.in_ok-key-in-Failure.ensures ∙ c.key-in-Failure.ensures)) c.reads_all.ensures.look
