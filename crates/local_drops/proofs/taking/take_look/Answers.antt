-- What the proof of `taking::take_look` needs beside the tactics.
use Rattle.std.proofs.Common.{None, refl, sym}
use Rattle.std.proofs.lemmas.Result.{IfOk-weaker}
use Rattle.p2p_wire.specs.declared.message.Message.TheVariants as messages
use Rattle.drop_phases.specs.declared.turn.Taken.TheVariants as takens
use Rattle.drop_phases.specs.Doing.{Shuts, Takes}
use Rattle.drop_phases.specs.Feeding.{KeepsWord}
use Rattle.drop_phases.proofs.Words.{if_all, same_message}
use Rattle.drop_phases.specs.Working.{turn_in}
use Rattle.drop_phases.proofs.Takings.{shut_does}
use Rattle.drop_phases.proofs.Unexpected.{look_else}
use Rattle.local_drops.proofs.taking.take_look.Goals as goal

pub returns-in_default : goal.returns-in_default
returns-in_default c =
    let w = c.args.worker.now in
    record {
      does = IfOk-weaker c.shut.result (Shuts c.args.peer w c.shut.new.worker) (Takes c.args.time c.args.peer c.args.message.now w c.shut.new.worker) (λ out is x rows p f time comes.
          shut_does x rows p w c.shut.new.worker f c.args.peer c.args.message.now w.version out is.kind comes (λ rest. rw c.requires.at refl) (rw c.requires.at refl) c.requires.local is.sends is.next
          (λ rest. rw c.requires.at (sym (look_else (turn_in x rows p None rest w) f c.args.peer c.args.peer c.args.message.now c.in_default.not-Success c.in_default.not-Failure)))) c.shut.ensures.shuts;
      word = if_all c.shut.result (KeepsWord (takens.Message c.args.message.now) c.args.word w c.shut.new.worker) (λ p at is. absurd (c.in_default.not-Failure (same_message c.args.message.now messages.Failure is)));
      talks = c.shut.ensures.talks;
      err = c.shut.ensures.err;
      stays = c.shut.ensures.stays;
    }
