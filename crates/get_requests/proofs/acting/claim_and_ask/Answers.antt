-- What follows what was asked.
use Rattle.std.proofs.Common.{None, false, [], sym, ap, ◌∙◌}
use Rattle.run_data.specs.declared.entry.By.TheVariants.{Job as by_job}
use Rattle.run_data.specs.declared.entry.EntryKind.TheVariants.{Fault}
use Rattle.transfer_turns.specs.Steps.{seen}
use Rattle.transfer_turns.specs.Turns.{output_of}
use Rattle.get_phases.specs.Gets.{fill_in}
use Rattle.get_phases.proofs.Following.{failed_asks, sent_asks}
use Rattle.get_requests.proofs.acting.claim_and_ask.Goals as goal

pub returns-in_ok-fill-in-Sent-clause-asks : goal.returns-in_ok-fill-in-Sent-clause-asks
returns-in_ok-fill-in-Sent-clause-asks g c =
    let w = c.args.getting.now in
    let a = c.in_ok-sent.ensures in
    sent_asks c.args.peer (seen (g.K.Keeper.contents c.args.keeper.now) (g.K.Keeper.parts c.args.keeper.now) (g.K.Keeper.records c.args.keeper.now) (g.K.Keeper.files c.args.keeper.now) (g.K.Keeper.faults c.args.keeper.now) (g.K.Keeper.failing c.args.keeper.now)) (seen (g.K.Keeper.contents c.ask.new.keeper) (g.K.Keeper.parts c.ask.new.keeper) (g.K.Keeper.records c.ask.new.keeper) (g.K.Keeper.files c.ask.new.keeper) (g.K.Keeper.faults c.ask.new.keeper) (g.K.Keeper.failing c.ask.new.keeper)) w c.in_ok-sent.field-0 (rw c.key.ensures at a.asks) a.leaves (rw c.key.ensures at a.calls)
    w c.wait_for_data.new.getting c.in-Sent.sent c.in_ok-fill-in-Sent.fill c.wait_for_data.result c.in-Sent.is (λ i. record w { phase = c.requires.fresh i })
    (c.in_ok-fill-in-Sent.ensures.token ∙ c.key-in-Sent.ensures) c.wait_for_data.ensures.output c.wait_for_data.ensures.rest c.wait_for_data.ensures.phase

pub returns-in-Failed-clause-asks : goal.returns-in-Failed-clause-asks
returns-in-Failed-clause-asks g c =
    let w = c.args.getting.now in
    let a = c.in_ok-sent.ensures in
    failed_asks c.args.peer (seen (g.K.Keeper.contents c.args.keeper.now) (g.K.Keeper.parts c.args.keeper.now) (g.K.Keeper.records c.args.keeper.now) (g.K.Keeper.files c.args.keeper.now) (g.K.Keeper.faults c.args.keeper.now) (g.K.Keeper.failing c.args.keeper.now)) (seen (g.K.Keeper.contents c.ask.new.keeper) (g.K.Keeper.parts c.ask.new.keeper) (g.K.Keeper.records c.ask.new.keeper) (g.K.Keeper.files c.ask.new.keeper) (g.K.Keeper.faults c.ask.new.keeper) (g.K.Keeper.failing c.ask.new.keeper)) w c.in_ok-sent.field-0 (rw c.key.ensures at a.asks) a.leaves (rw c.key.ensures at a.calls)
    w c.go_to.new.self c.in-Failed.call None c.failing.result c.in-Failed.is (λ i. record w { phase = c.requires.fresh i }) (ap fill_in (sym c.requires.fresh))
    (c.failing.ensures ∙ (λ i. output_of (Fault c.in-Failed.call (by_job (c.go_to.ensures i).number)) [] false)) c.go_to.ensures
