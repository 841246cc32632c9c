-- By the frame.
use Rattle.std.proofs.Common.{Some, sym, subst}
use Rattle.session_state.specs.declared.incoming.Incoming.{Incoming}
use Rattle.transfer_turns.specs.Steps.{seen}
use Rattle.put_steps.specs.Putting.{Does}
use Rattle.put_steps.proofs.Closings.{bad_hears, bytes_hears, closing_hears, opening_hears}
use Rattle.put_steps.proofs.hearing.take.Goals as goal

pub returns-in-Message : goal.returns-in-Message
returns-in-Message g c =
    let k = seen (g.K.Keeper.contents c.args.keeper.now) (g.K.Keeper.parts c.args.keeper.now) (g.K.Keeper.records c.args.keeper.now) (g.K.Keeper.files c.args.keeper.now) (g.K.Keeper.faults c.args.keeper.now) (g.K.Keeper.failing c.args.keeper.now) in
    let after = seen (g.K.Keeper.contents c.take_message.new.keeper) (g.K.Keeper.parts c.take_message.new.keeper) (g.K.Keeper.records c.take_message.new.keeper) (g.K.Keeper.files c.take_message.new.keeper) (g.K.Keeper.faults c.take_message.new.keeper) (g.K.Keeper.failing c.take_message.new.keeper) in
    record {
      does = λ x rows. subst (λ (i : Incoming). Does x (Some i) rows k after c.args.putting.now c.take_message.new.putting c.take_message.result) (sym c.in-Message.is) (c.take_message.ensures.does x rows);
    }

pub returns-in-Closing : goal.returns-in-Closing
returns-in-Closing g c = record {
  does = λ x rows. rw c.in-Closing.is (closing_hears x rows _ c.args.putting.now c.close.new.self c.args.peer c.close.result c.requires.awaits c.close.ensures);
}

pub returns-in-Opening : goal.returns-in-Opening
returns-in-Opening g c = record {
  does = λ x rows. rw c.in-Opening.is (opening_hears x rows _ c.args.putting.now c.shut.new.putting c.args.peer c.shut.result c.requires.awaits c.shut.ensures.ok c.shut.ensures.err);
}

pub returns-in-Bytes : goal.returns-in-Bytes
returns-in-Bytes g c = record {
  does = λ x rows. rw c.in-Bytes.is (bytes_hears x rows _ c.args.putting.now c.shut-in-Bytes.new.putting c.args.peer _ c.shut-in-Bytes.result c.requires.awaits c.shut-in-Bytes.ensures.ok c.shut-in-Bytes.ensures.err);
}

pub returns-in-Bad : goal.returns-in-Bad
returns-in-Bad g c = record {
  does = λ x rows. rw c.in-Bad.is (bad_hears x rows _ c.args.putting.now c.shut-in-Bad.new.putting c.args.peer c.shut-in-Bad.result c.requires.awaits c.shut-in-Bad.ensures.ok c.shut-in-Bad.ensures.err);
}
