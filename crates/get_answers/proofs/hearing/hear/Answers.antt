-- By whether something came.
use Rattle.transfer_turns.specs.Steps.{seen}
use Rattle.get_answers.proofs.Losses.{closed_does, fills_there}
use Rattle.get_answers.proofs.hearing.hear.Goals as goal

pub close-requires : goal.close-requires
close-requires g c = record { fills = fills_there c.args.getting.now c.args.peer c.requires.awaits }

pub returns-in-None : goal.returns-in-None
returns-in-None g c = record {
  does = λ x.
      rw c.in-None.is (closed_does x c.args.table.now (seen (g.K.Keeper.contents c.args.keeper.now) (g.K.Keeper.parts c.args.keeper.now) (g.K.Keeper.records c.args.keeper.now) (g.K.Keeper.files c.args.keeper.now) (g.K.Keeper.faults c.args.keeper.now) (g.K.Keeper.failing c.args.keeper.now)) c.args.getting.now c.close.new.getting c.args.peer c.close.result c.requires.has c.requires.awaits c.close.ensures.err c.close.ensures.ok);
}

pub returns-in-Some : goal.returns-in-Some
returns-in-Some g c = record {
  does = λ x. rw c.in-Some.is (c.take.ensures.does x);
}
