-- Told of a frame, or of none.
use Rattle.std.proofs.Common.{sym, ◌∙◌}
use Rattle.drop_phases.specs.Leaving.{store}
use Rattle.drop_phases.specs.Working.{sight}
use Rattle.drop_phases.proofs.Doings.{talks_barred}
use Rattle.drop_worker.proofs.Machines.{acts_did, hears_did}
use Rattle.drop_phases.proofs.FrameCalls.{local_makes, phase_makes}
use Rattle.drop_worker.proofs.Goings.{acts_gone, hears_gone}
use Rattle.drop_worker.proofs.machine.step_local.Goals as goal

pub returns-in-Some-clause-does : goal.returns-in-Some-clause-does
returns-in-Some-clause-does g c =
    let w = c.args.worker.now in
    let at = sym c.awaits.ensures ∙ c.in-Some.is in
    hears_did (sight (g.H.Here.reading c.args.here.now) (g.H.Here.ends c.args.here.now) c.args.input.now.time c.args.input.now.number) c.args.table.now (store (g.K.Keeper.contents c.args.keeper.now) (g.K.Keeper.records c.args.keeper.now) (g.K.Keeper.faults c.args.keeper.now)) w c.hear.new.worker
    c.in-Some.peer c.args.input.now.taken c.args.input.now.word c.hear.result at (talks_barred w.job.peer c.in-Some.peer w.phase w.token at c.requires.fits) c.requires.owns c.hear.ensures.does c.hear.ensures.word c.hear.ensures.talks c.hear.ensures.err

pub returns-in-None-clause-does : goal.returns-in-None-clause-does
returns-in-None-clause-does g c =
    acts_did (sight (g.H.Here.reading c.args.here.now) (g.H.Here.ends c.args.here.now) c.args.input.now.time c.args.input.now.number) c.args.table.now c.act.new.table (store (g.K.Keeper.contents c.args.keeper.now) (g.K.Keeper.records c.args.keeper.now) (g.K.Keeper.faults c.args.keeper.now)) (store (g.K.Keeper.contents c.act.new.keeper) (g.K.Keeper.records c.act.new.keeper) (g.K.Keeper.faults c.act.new.keeper))
    c.args.worker.now c.act.new.worker c.args.input.now.taken c.args.input.now.word c.act.result (sym c.awaits.ensures ∙ c.in-None.is) c.act.ensures.does

pub returns-in-Some-clause-begun : goal.returns-in-Some-clause-begun
returns-in-Some-clause-begun g c =
    hears_gone (g.H.Here.reading c.args.here.now) c.args.worker.now c.hear.new.worker c.in-Some.peer c.hear.result c.requires.fits (sym c.awaits.ensures ∙ c.in-Some.is) c.hear.ensures.stays c.hear.ensures.talks

pub returns-in-None-clause-begun : goal.returns-in-None-clause-begun
returns-in-None-clause-begun g c = acts_gone (g.H.Here.reading c.args.here.now) c.args.worker.now c.act.new.worker c.act.result c.act.ensures.begun

pub returns-in-Some-clause-calls : goal.returns-in-Some-clause-calls
returns-in-Some-clause-calls g c =
    local_makes (sight (g.H.Here.reading c.args.here.now) (g.H.Here.ends c.args.here.now) c.args.input.now.time c.args.input.now.number) (g.K.Keeper.contents c.args.keeper.now) c.args.table.now c.args.worker.now c.hear.new.worker
    c.in-Some.peer c.args.input.now.taken (g.K.Keeper.failing c.args.keeper.now) c.hear.result (sym c.awaits.ensures ∙ c.in-Some.is) c.requires.fits c.hear.ensures.talks

pub returns-in-None-clause-calls : goal.returns-in-None-clause-calls
returns-in-None-clause-calls g c =
    phase_makes (sight (g.H.Here.reading c.args.here.now) (g.H.Here.ends c.args.here.now) c.args.input.now.time c.args.input.now.number) (g.K.Keeper.contents c.args.keeper.now) c.args.table.now c.args.worker.now
    c.args.input.now.taken (g.K.Keeper.failing c.args.keeper.now) (g.K.Keeper.failing c.act.new.keeper) c.act.result (sym c.awaits.ensures ∙ c.in-None.is) c.act.ensures.calls
