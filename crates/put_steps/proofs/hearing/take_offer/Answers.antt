-- By the message.
use Rattle.std.proofs.Common.{Some, sym, subst}
use Rattle.p2p_wire.specs.declared.message.Message.{Message}
use Rattle.session_state.specs.declared.incoming.Incoming.TheVariants as incoming
use Rattle.transfer_turns.specs.Steps.{seen}
use Rattle.put_steps.specs.Putting.{Does}
use Rattle.put_steps.proofs.Replies.{already_hears, offer_refused, offer_shut}
use Rattle.put_steps.proofs.hearing.take_offer.Goals as goal

pub returns-in-Error : goal.returns-in-Error
returns-in-Error g c =
    let k = seen (g.K.Keeper.contents c.args.keeper.now) (g.K.Keeper.parts c.args.keeper.now) (g.K.Keeper.records c.args.keeper.now) (g.K.Keeper.files c.args.keeper.now) (g.K.Keeper.faults c.args.keeper.now) (g.K.Keeper.failing c.args.keeper.now) in
    record {
      does = λ x rows. subst (λ (m : Message). Does x (Some (incoming.Message m)) rows k k c.args.putting.now c.take_error.new.putting c.take_error.result) (sym c.in-Error.is) (c.take_error.ensures.hears x rows k);
    }

pub returns-in-PutFrom : goal.returns-in-PutFrom
returns-in-PutFrom g c =
    let k = seen (g.K.Keeper.contents c.args.keeper.now) (g.K.Keeper.parts c.args.keeper.now) (g.K.Keeper.records c.args.keeper.now) (g.K.Keeper.files c.args.keeper.now) (g.K.Keeper.faults c.args.keeper.now) (g.K.Keeper.failing c.args.keeper.now) in
    let after = seen (g.K.Keeper.contents c.announce.new.keeper) (g.K.Keeper.parts c.announce.new.keeper) (g.K.Keeper.records c.announce.new.keeper) (g.K.Keeper.files c.announce.new.keeper) (g.K.Keeper.faults c.announce.new.keeper) (g.K.Keeper.failing c.announce.new.keeper) in
    record {
      does = λ x rows. subst (λ (m : Message). Does x (Some (incoming.Message m)) rows k after c.args.putting.now c.announce.new.putting c.announce.result) (sym c.in-PutFrom.is) (c.announce.ensures.does x rows);
    }

pub returns-in_default : goal.returns-in_default
returns-in_default g c = record {
  does = λ x rows.
      offer_shut x rows _ c.args.putting.now c.shut.new.putting c.args.peer c.args.message.now c.shut.result c.requires.offers c.in_default.not-AlreadyHave c.in_default.not-Failure c.in_default.not-Error c.in_default.not-PutFrom
      c.shut.ensures.ok c.shut.ensures.err;
}

pub returns-in-AlreadyHave : goal.returns-in-AlreadyHave
returns-in-AlreadyHave g c = record {
  does = λ x rows. rw c.in-AlreadyHave.is (already_hears x rows _ c.args.putting.now c.finish.new.self c.args.peer c.finish.result c.requires.offers c.finish.ensures.says c.finish.ensures.next);
}

pub returns-in-Failure : goal.returns-in-Failure
returns-in-Failure g c = record {
  does = λ x rows. rw c.in-Failure.is (offer_refused x rows _ c.args.putting.now c.refuse.new.self c.args.peer c.refuse.result c.requires.offers c.refuse.ensures);
}
