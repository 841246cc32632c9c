-- Where it goes on from.
use Rattle.std.proofs.Common.{sym, subst, ◌∙◌}
use Rattle.drop_phases.specs.Leaving.{store}
use Rattle.drop_phases.specs.Begun.{IsToEnd}
use Rattle.drop_phases.specs.Working.{sight}
use Rattle.drop_phases.proofs.Callings.{local_closed}
use Rattle.local_drops.proofs.LocalCalls.{ends_makes, fits_shareless}
use Rattle.local_drops.proofs.Goings.{ended_gone}
use Rattle.local_drops.proofs.acting.act.Goals as goal

pub returns-in-Next-clause-does : goal.returns-in-Next-clause-does
returns-in-Next-clause-does g c = c.go_on.ensures.does c.args.input.now.number

pub returns-in-Removed-clause-does : goal.returns-in-Removed-clause-does
returns-in-Removed-clause-does g c =
    c.drop_done.ensures.does c.args.input.now.time c.args.input.now.number (store (g.K.Keeper.contents c.args.keeper.now) (g.K.Keeper.records c.args.keeper.now) (g.K.Keeper.faults c.args.keeper.now))

pub returns-in-Ends-clause-does : goal.returns-in-Ends-clause-does
returns-in-Ends-clause-does g c =
    c.end_so.ensures.does c.args.input.now.time c.args.input.now.number (store (g.K.Keeper.contents c.args.keeper.now) (g.K.Keeper.records c.args.keeper.now) (g.K.Keeper.faults c.args.keeper.now))

pub returns-in-Removed-clause-begun : goal.returns-in-Removed-clause-begun
returns-in-Removed-clause-begun g c = ended_gone (g.H.Here.reading c.args.here.now) c.args.worker.now c.drop_done.new.worker c.drop_done.result c.drop_done.ensures.ended

pub returns-in-Ends-clause-begun : goal.returns-in-Ends-clause-begun
returns-in-Ends-clause-begun g c = ended_gone (g.H.Here.reading c.args.here.now) c.args.worker.now c.end_so.new.worker c.end_so.result c.end_so.ensures.ended

pub returns-in-Next-clause-calls : goal.returns-in-Next-clause-calls
returns-in-Next-clause-calls g c = c.go_on.ensures.calls c.args.input.now.number

pub returns-in-Removed-clause-calls : goal.returns-in-Removed-clause-calls
returns-in-Removed-clause-calls g c =
    ends_makes (sight (g.H.Here.reading c.args.here.now) (g.H.Here.ends c.args.here.now) c.args.input.now.time c.args.input.now.number) (g.K.Keeper.contents c.args.keeper.now) c.args.table.now c.args.worker.now c.drop_done.new.worker (g.K.Keeper.failing c.args.keeper.now) c.drop_done.result (subst IsToEnd (sym c.in-Removed.is ∙ c.phase.ensures) tt)
    (local_closed c.args.worker.now c.args.table.now (fits_shareless c.args.worker.now.phase c.args.worker.now.token c.requires.fits) c.requires.owns) c.drop_done.ensures.ended

pub returns-in-Ends-clause-calls : goal.returns-in-Ends-clause-calls
returns-in-Ends-clause-calls g c =
    ends_makes (sight (g.H.Here.reading c.args.here.now) (g.H.Here.ends c.args.here.now) c.args.input.now.time c.args.input.now.number) (g.K.Keeper.contents c.args.keeper.now) c.args.table.now c.args.worker.now c.end_so.new.worker (g.K.Keeper.failing c.args.keeper.now) c.end_so.result (subst IsToEnd (sym c.in-Ends.is ∙ c.phase.ensures) tt)
    (local_closed c.args.worker.now c.args.table.now (fits_shareless c.args.worker.now.phase c.args.worker.now.token c.requires.fits) c.requires.owns) c.end_so.ensures.ended
