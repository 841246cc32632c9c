-- The bar, or the refusal by the row.
use Rattle.std.proofs.Common.{Err, ap, sym, subst, ◌∙◌}
use Rattle.run_data.specs.declared.entry.EntryKind.TheVariants.{Bar}
use Rattle.node_model.specs.Look.{failed_in}
use Rattle.drop_phases.specs.declared.phase.Phase.TheVariants as phases
use Rattle.drop_phases.specs.Worker.{Worker}
use Rattle.drop_phases.specs.Working.{sight}
use Rattle.drop_phases.specs.Leaving.{store}
use Rattle.drop_phases.specs.Feeding.{IsOfLocal}
use Rattle.drop_phases.proofs.Callings.{local_closed}
use Rattle.local_drops.proofs.LocalCalls.{begin_makes, unbarred_makes}
use Rattle.local_drops.proofs.Firsts.{barred_did, unbarred_did}
use Rattle.local_drops.proofs.Goings.{unbarred_gone}
use Rattle.local_drops.proofs.acting.put_bar.Goals as goal

pub returns-in-Ok-clause-does : goal.returns-in-Ok-clause-does
returns-in-Ok-clause-does g c =
    let next = c.go_to.ensures ∙ ap (λ (u : Worker). record u { phase = phases.Next }) c.take_bar.ensures in
    barred_did (sight (g.H.Here.reading c.args.here.now) (g.H.Here.ends c.args.here.now) c.args.input.now.time c.args.input.now.number) c.args.table.now c.bar.new.self
    (store (g.K.Keeper.contents c.args.keeper.now) (g.K.Keeper.records c.args.keeper.now) (g.K.Keeper.faults c.args.keeper.now)) (store (g.K.Keeper.contents c.bar.new.keeper) (g.K.Keeper.records c.bar.new.keeper) (g.K.Keeper.faults c.bar.new.keeper))
    c.args.worker.now c.go_to.new.self c.requires.local c.requires.fresh c.requires.bare c.requires.owns c.in-Ok.bar c.quietly.result c.requires.spared
    (rw (c.key-2.ensures, c.number.ensures) at c.in-Ok.ensures.token)
    (c.quietly.ensures.0 ∙ (λ i. Bar ((c.number-in-Ok.ensures ∙ ap (λ (u : Worker). u.number) next) i) (c.need.ensures i) ((c.in_ok-key.ensures ∙ c.key.ensures) i)))
    c.quietly.ensures.1 next (rw (c.key-2.ensures, c.number.ensures) at c.in-Ok.ensures.after) (rw (c.key-2.ensures, c.clock-clock.ensures.same) at c.in-Ok.ensures.free)
    c.in-Ok.ensures.holds c.in-Ok.ensures.contents c.in-Ok.ensures.records c.in-Ok.ensures.later

pub returns-in-Err-clause-does : goal.returns-in-Err-clause-does
returns-in-Err-clause-does g c =
    unbarred_did (sight (g.H.Here.reading c.args.here.now) (g.H.Here.ends c.args.here.now) c.args.input.now.time c.args.input.now.number) c.args.table.now c.bar.new.self
    (store (g.K.Keeper.contents c.args.keeper.now) (g.K.Keeper.records c.args.keeper.now) (g.K.Keeper.faults c.args.keeper.now)) (store (g.K.Keeper.contents c.bar.new.keeper) (g.K.Keeper.records c.bar.new.keeper) (g.K.Keeper.faults c.bar.new.keeper))
    c.args.worker.now c.unbarred.new.worker c.requires.local c.requires.fresh c.requires.bare c.requires.owns c.in_ok-sends.sends c.in_ok-sends.ensures c.in-Err.ensures.err c.in-Err.ensures.contents c.in-Err.ensures.records
    c.in-Err.ensures.later c.in-Err.why c.unbarred.result c.requires.spared (rw (c.key-2.ensures, c.clock-clock.ensures.same) at c.in-Err.ensures.why) (λ e. c.in-Err.ensures.cause (ap Err e)) c.unbarred.ensures

pub returns-in-Err-clause-begun : goal.returns-in-Err-clause-begun
returns-in-Err-clause-begun g c =
    unbarred_gone (g.H.Here.reading c.args.here.now) c.args.worker.now c.unbarred.new.worker c.in_ok-sends.sends c.in-Err.why c.unbarred.result c.requires.bare c.unbarred.ensures

pub returns-in-Ok-clause-calls : goal.returns-in-Ok-clause-calls
returns-in-Ok-clause-calls g c =
    begin_makes (sight (g.H.Here.reading c.args.here.now) (g.H.Here.ends c.args.here.now) c.args.input.now.time c.args.input.now.number) (g.K.Keeper.contents c.args.keeper.now) c.args.table.now c.args.worker.now (g.K.Keeper.failing c.args.keeper.now) (g.K.Keeper.failing c.bar.new.keeper) c.requires.local c.requires.fresh
    (local_closed c.args.worker.now c.args.table.now (subst IsOfLocal (sym c.requires.bare) tt) c.requires.owns) c.quietly.result (ap failed_in c.quietly.ensures.0) c.in-Ok.ensures.failing

pub returns-in-Err-clause-calls : goal.returns-in-Err-clause-calls
returns-in-Err-clause-calls g c =
    unbarred_makes (sight (g.H.Here.reading c.args.here.now) (g.H.Here.ends c.args.here.now) c.args.input.now.time c.args.input.now.number) (g.K.Keeper.contents c.args.keeper.now) c.args.table.now c.args.worker.now (g.K.Keeper.failing c.args.keeper.now) (g.K.Keeper.failing c.bar.new.keeper) c.requires.local c.requires.fresh
    (local_closed c.args.worker.now c.args.table.now (subst IsOfLocal (sym c.requires.bare) tt) c.requires.owns) c.unbarred.new.worker c.in_ok-sends.sends c.in-Err.why c.unbarred.result c.in-Err.ensures.failing c.unbarred.ensures
