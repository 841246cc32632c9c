-- A frame comes, or the connection was closed here.
use Rattle.std.proofs.Common.{Option, sym, ap, subst}
use Rattle.std.specs.Option.{option_copied}
use Rattle.session_state.specs.declared.incoming.Incoming.{Incoming}
use Rattle.transfer_turns.specs.Steps.{seen}
use Rattle.put_steps.specs.Putting.{Does}
use Rattle.put_steps.proofs.Closings.{closed_hears}
use Rattle.put_steps.proofs.hearing.hear.Goals as goal

pub returns-in-Some : goal.returns-in-Some
returns-in-Some g c =
    let k = seen (g.K.Keeper.contents c.args.keeper.now) (g.K.Keeper.parts c.args.keeper.now) (g.K.Keeper.records c.args.keeper.now) (g.K.Keeper.files c.args.keeper.now) (g.K.Keeper.faults c.args.keeper.now) (g.K.Keeper.failing c.args.keeper.now) in
    let after = seen (g.K.Keeper.contents c.take.new.keeper) (g.K.Keeper.parts c.take.new.keeper) (g.K.Keeper.records c.take.new.keeper) (g.K.Keeper.files c.take.new.keeper) (g.K.Keeper.faults c.take.new.keeper) (g.K.Keeper.failing c.take.new.keeper) in
    record {
      does = λ x rows. subst (λ (i : Option Incoming). Does x i rows k after c.args.putting.now c.take.new.putting c.take.result) (sym (ap option_copied c.in-Some.is)) (c.take.ensures.does x rows);
    }

pub returns-in-None : goal.returns-in-None
returns-in-None g c = record {
  does = λ x rows. rw c.in-None.is (closed_hears x rows _ c.args.putting.now c.close.new.self c.args.peer c.close.result c.requires.awaits c.close.ensures);
}
