-- What isn't permitted closes the connection.
use Rattle.std.proofs.Common.{Some, sym, subst}
use Rattle.p2p_wire.specs.declared.message.Message.{Message}
use Rattle.session_state.specs.declared.incoming.Incoming.TheVariants as incoming
use Rattle.put_steps.specs.Putting.{Does}
use Rattle.put_steps.proofs.Replies.{greeted_shut}
use Rattle.put_steps.proofs.hearing.take_version.Goals as goal

pub returns-in-Version : goal.returns-in-Version
returns-in-Version c = record {
  hears = λ x rows k. subst (λ (m : Message). Does x (Some (incoming.Message m)) rows k k c.args.putting.now c.agree.new.putting c.agree.result) (sym c.in-Version.is) (c.agree.ensures.hears x rows k);
}

pub returns-in_default : goal.returns-in_default
returns-in_default c = record {
  hears = λ x rows k. greeted_shut x rows k c.args.putting.now c.shut.new.putting c.args.peer c.args.message.now c.shut.result c.requires.greets c.in_default.not-Version c.shut.ensures.ok c.shut.ensures.err;
}
