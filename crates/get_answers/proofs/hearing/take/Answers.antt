-- By the frame.
use Rattle.transfer_turns.specs.Steps.{seen}
use Rattle.get_answers.proofs.Losses.{bad_does, closing_does, fills_there, opening_does}
use Rattle.get_answers.proofs.hearing.take.Goals as goal

pub close-requires : goal.close-requires
close-requires g c = record { fills = fills_there c.args.getting.now c.args.peer c.requires.awaits }

pub shut-requires : goal.shut-requires
shut-requires g c = record { fills = fills_there c.args.getting.now c.args.peer c.requires.awaits }

pub shut-requires-in-Bad : goal.shut-requires-in-Bad
shut-requires-in-Bad g c = record { fills = fills_there c.args.getting.now c.args.peer c.requires.awaits }

pub returns-in-Closing : goal.returns-in-Closing
returns-in-Closing g c = record {
  does = λ x.
      rw c.in-Closing.is (closing_does x c.args.table.now (seen (g.K.Keeper.contents c.args.keeper.now) (g.K.Keeper.parts c.args.keeper.now) (g.K.Keeper.records c.args.keeper.now) (g.K.Keeper.files c.args.keeper.now) (g.K.Keeper.faults c.args.keeper.now) (g.K.Keeper.failing c.args.keeper.now)) c.args.getting.now c.close.new.getting c.args.peer c.close.result c.requires.has c.requires.awaits c.close.ensures.err c.close.ensures.ok);
}

pub returns-in-Message : goal.returns-in-Message
returns-in-Message g c = record {
  does = λ x. rw c.in-Message.is (c.take_message.ensures.does x);
}

pub returns-in-Bytes : goal.returns-in-Bytes
returns-in-Bytes g c = record {
  does = λ x. rw c.in-Bytes.is (c.append.ensures.does x c.args.table.now c.requires.has);
}

pub returns-in-Opening : goal.returns-in-Opening
returns-in-Opening g c = record {
  does = λ x.
      rw c.in-Opening.is (opening_does x c.args.table.now (seen (g.K.Keeper.contents c.args.keeper.now) (g.K.Keeper.parts c.args.keeper.now) (g.K.Keeper.records c.args.keeper.now) (g.K.Keeper.files c.args.keeper.now) (g.K.Keeper.faults c.args.keeper.now) (g.K.Keeper.failing c.args.keeper.now)) c.args.getting.now c.shut.new.getting c.args.peer c.shut.result c.requires.has c.requires.awaits c.shut.ensures.err c.shut.ensures.ok);
}

pub returns-in-Bad : goal.returns-in-Bad
returns-in-Bad g c = record {
  does = λ x.
      rw c.in-Bad.is (bad_does x c.args.table.now (seen (g.K.Keeper.contents c.args.keeper.now) (g.K.Keeper.parts c.args.keeper.now) (g.K.Keeper.records c.args.keeper.now) (g.K.Keeper.files c.args.keeper.now) (g.K.Keeper.faults c.args.keeper.now) (g.K.Keeper.failing c.args.keeper.now)) c.args.getting.now c.shut-in-Bad.new.getting c.args.peer c.shut-in-Bad.result c.requires.has c.requires.awaits c.shut-in-Bad.ensures.err c.shut-in-Bad.ensures.ok);
}
