-- What the proof of `taking::take_opened` needs beside the tactics.
use Rattle.std.proofs.Common.{None, refl, sym}
use Rattle.std.proofs.lemmas.Result.{IfOk-weaker}
use Rattle.p2p_wire.specs.declared.message.Message.TheVariants as messages
use Rattle.drop_phases.specs.Doing.{Shuts, Takes}
use Rattle.drop_phases.specs.Working.{turn_in}
use Rattle.drop_phases.proofs.Takings.{say_does, shut_does}
use Rattle.drop_phases.proofs.Unexpected.{opens_else}
use Rattle.local_drops.proofs.taking.take_opened.Goals as goal

pub returns-in_default : goal.returns-in_default
returns-in_default c =
    let w = c.args.worker.now in
    record {
      does = IfOk-weaker c.shut.result (Shuts c.args.peer w c.shut.new.worker) (Takes c.args.time c.args.peer c.args.message.now w c.shut.new.worker) (λ out is x rows p f time comes.
          shut_does x rows p w c.shut.new.worker f c.args.peer c.args.message.now w.version out is.kind comes (λ rest. rw c.requires.at refl) (rw c.requires.at refl) c.requires.local is.sends is.next
          (λ rest. rw c.requires.at (sym (opens_else (turn_in x rows p None rest w) f c.args.peer c.args.peer c.args.message.now refl c.in_default.not-AuthSuccess)))) c.shut.ensures.shuts;
      talks = c.shut.ensures.talks;
      err = c.shut.ensures.err;
      stays = c.shut.ensures.stays;
    }

pub returns-in_ok-out-in-AuthSuccess-clause-does : goal.returns-in_ok-out-in-AuthSuccess-clause-does
returns-in_ok-out-in-AuthSuccess-clause-does c = λ x rows p f time comes.
    say_does x rows p c.args.worker.now _ f c.args.peer c.args.message.now c.args.worker.now.version c.in_ok-out-in-AuthSuccess.out (rw c.number.ensures at c.in_ok-out-in-AuthSuccess.ensures.0) comes (λ rest. rw c.requires.at refl) (rw c.requires.at refl)
    (messages.Version 3) (rw c.in_ok-new-in-AuthSuccess.ensures at c.in_ok-out-in-AuthSuccess.ensures.1) c.reads.ensures.version.0 (λ rest. rw (c.requires.at, c.in-AuthSuccess.is) refl) (λ rest. rw c.go_to.ensures refl)
