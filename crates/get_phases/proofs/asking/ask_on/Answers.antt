-- What follows what was asked.
use Rattle.std.proofs.Common.{Some, false, [], sym, ◌∙◌}
use Rattle.run_data.specs.declared.entry.By.TheVariants.{Job as by_job}
use Rattle.run_data.specs.declared.entry.EntryKind.TheVariants.{Fault}
use Rattle.transfer_turns.specs.Steps.{seen}
use Rattle.transfer_turns.specs.Turns.{output_of}
use Rattle.get_phases.specs.Gets.{fill_in}
use Rattle.get_phases.proofs.Following.{failed_asks, own_fill, sent_asks}
use Rattle.get_phases.proofs.asking.ask_on.Goals as goal

pub returns-in-Sent : goal.returns-in-Sent
returns-in-Sent g c =
    let w = c.args.getting.now in
    let a = c.in_ok-sent.ensures in
    sent_asks c.args.peer (seen (g.K.Keeper.contents c.args.keeper.now) (g.K.Keeper.parts c.args.keeper.now) (g.K.Keeper.records c.args.keeper.now) (g.K.Keeper.files c.args.keeper.now) (g.K.Keeper.faults c.args.keeper.now) (g.K.Keeper.failing c.args.keeper.now)) (seen (g.K.Keeper.contents c.ask.new.keeper) (g.K.Keeper.parts c.ask.new.keeper) (g.K.Keeper.records c.ask.new.keeper) (g.K.Keeper.files c.ask.new.keeper) (g.K.Keeper.faults c.ask.new.keeper) (g.K.Keeper.failing c.ask.new.keeper)) w c.in_ok-sent.field-0 (rw c.key.ensures at a.asks) a.leaves (rw c.key.ensures at a.calls)
    c.take_fill-fill.new.self c.wait_for_data.new.getting c.in-Sent.sent c.take_fill-fill.result c.wait_for_data.result c.in-Sent.is c.take_fill-fill.ensures.bare
    (own_fill (fill_in w.phase) c.take_fill-fill.result w.job.key c.take_fill-fill.ensures.fill c.requires.fills) c.wait_for_data.ensures.output c.wait_for_data.ensures.rest c.wait_for_data.ensures.phase

pub returns-in-Failed : goal.returns-in-Failed
returns-in-Failed g c =
    let w = c.args.getting.now in
    let a = c.in_ok-sent.ensures in
    failed_asks c.args.peer (seen (g.K.Keeper.contents c.args.keeper.now) (g.K.Keeper.parts c.args.keeper.now) (g.K.Keeper.records c.args.keeper.now) (g.K.Keeper.files c.args.keeper.now) (g.K.Keeper.faults c.args.keeper.now) (g.K.Keeper.failing c.args.keeper.now)) (seen (g.K.Keeper.contents c.ask.new.keeper) (g.K.Keeper.parts c.ask.new.keeper) (g.K.Keeper.records c.ask.new.keeper) (g.K.Keeper.files c.ask.new.keeper) (g.K.Keeper.faults c.ask.new.keeper) (g.K.Keeper.failing c.ask.new.keeper)) w c.in_ok-sent.field-0 (rw c.key.ensures at a.asks) a.leaves (rw c.key.ensures at a.calls)
    c.take_fill.new.self c.go_to.new.self c.in-Failed.call (Some c.take_fill.result) c.failing.result c.in-Failed.is c.take_fill.ensures.bare (sym c.take_fill.ensures.fill)
    (c.failing.ensures ∙ ((λ i. output_of (Fault c.in-Failed.call (by_job (c.go_to.ensures i).number)) [] false) ∙ (λ i. output_of (Fault c.in-Failed.call (by_job (c.take_fill.ensures.bare i).number)) [] false))) c.go_to.ensures
