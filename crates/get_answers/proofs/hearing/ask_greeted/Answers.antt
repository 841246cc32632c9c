-- By what was asked.
use Rattle.std.proofs.Common.{ap, ◌∙◌}
use Rattle.std.specs.Prelude.{is_some}
use Rattle.transfer_turns.specs.Steps.{seen}
use Rattle.get_phases.specs.declared.getting.Getting.{Getting}
use Rattle.get_phases.specs.declared.getting.Phase.{Phase}
use Rattle.get_phases.specs.Gets.{fill_in}
use Rattle.get_phases.proofs.Following.{own_fill}
use Rattle.get_answers.proofs.Greeting.{sent_does, unsent_does}
use Rattle.get_answers.proofs.hearing.ask_greeted.Goals as goal

pub take_fill-fill-requires : goal.take_fill-fill-requires
take_fill-fill-requires g c = record { fills = ap (λ (u : Getting). is_some (fill_in u.phase)) c.learn.ensures ∙ ap (λ (ph : Phase). is_some (fill_in ph)) c.requires.greets.at }

pub give_up-requires : goal.give_up-requires
give_up-requires g c = record { fills = ap (λ (ph : Phase). is_some (fill_in ph)) c.requires.greets.at }

pub returns-in-Sent : goal.returns-in-Sent
returns-in-Sent g c = record {
  does = λ x rows has.
      let w = c.args.getting.now in
      let a = c.in_ok-sent.ensures in
      let own = own_fill (fill_in c.learn.new.self.phase) c.take_fill-fill.result c.requires.greets.fill c.take_fill-fill.ensures.fill (ap (λ (u : Getting). fill_in u.phase) c.learn.ensures ∙ ap fill_in c.requires.greets.at) in
      sent_does x rows (seen (g.K.Keeper.contents c.args.keeper.now) (g.K.Keeper.parts c.args.keeper.now) (g.K.Keeper.records c.args.keeper.now) (g.K.Keeper.files c.args.keeper.now) (g.K.Keeper.faults c.args.keeper.now) (g.K.Keeper.failing c.args.keeper.now)) (seen (g.K.Keeper.contents c.ask.new.keeper) (g.K.Keeper.parts c.ask.new.keeper) (g.K.Keeper.records c.ask.new.keeper) (g.K.Keeper.files c.ask.new.keeper) (g.K.Keeper.faults c.ask.new.keeper) (g.K.Keeper.failing c.ask.new.keeper)) w c.wait_for_data.new.getting c.args.peer c.args.version c.requires.greets.fill c.wait_for_data.result c.in_ok-sent.field-0 c.requires.known c.requires.greets.at (rw c.key.ensures at a.asks) (rw c.key.ensures at a.calls) a.leaves has
      c.in-Sent.sent c.in-Sent.is
      (c.wait_for_data.ensures.rest ∙ ((λ i. record (c.take_fill-fill.ensures.bare i) { phase = c.wait_for_data.new.getting.phase }) ∙ (λ i. record (c.learn.ensures i) { phase = c.wait_for_data.new.getting.phase })))
      (rw own at c.wait_for_data.ensures.phase) c.wait_for_data.ensures.output;
}

pub returns-in-Failed : goal.returns-in-Failed
returns-in-Failed g c = record {
  does = λ x rows has.
      let w = c.args.getting.now in
      let a = c.in_ok-sent.ensures in
      unsent_does x rows (seen (g.K.Keeper.contents c.args.keeper.now) (g.K.Keeper.parts c.args.keeper.now) (g.K.Keeper.records c.args.keeper.now) (g.K.Keeper.files c.args.keeper.now) (g.K.Keeper.faults c.args.keeper.now) (g.K.Keeper.failing c.args.keeper.now)) (seen (g.K.Keeper.contents c.ask.new.keeper) (g.K.Keeper.parts c.ask.new.keeper) (g.K.Keeper.records c.ask.new.keeper) (g.K.Keeper.files c.ask.new.keeper) (g.K.Keeper.faults c.ask.new.keeper) (g.K.Keeper.failing c.ask.new.keeper)) w c.give_up.new.getting c.args.peer c.args.version c.requires.greets.fill c.failing.result c.in_ok-sent.field-0 c.requires.known c.requires.greets.at (rw c.key.ensures at a.asks) (rw c.key.ensures at a.calls) a.leaves has
      c.in-Failed.call c.in-Failed.is c.give_up.ensures c.failing.ensures;
}
