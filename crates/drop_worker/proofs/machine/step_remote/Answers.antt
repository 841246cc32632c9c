-- Told of a frame, or of none.
use Rattle.std.proofs.Common.{sym, ◌∙◌}
use Rattle.drop_phases.specs.Leaving.{store}
use Rattle.drop_phases.specs.Working.{sight}
use Rattle.drop_worker.proofs.Machines.{acts_remotely, hears_remotely}
use Rattle.drop_phases.proofs.FrameCalls.{fed_makes, phase_makes}
use Rattle.drop_phases.proofs.Numbers.{each_number}
use Rattle.remote_requests.specs.Remote.{TakesRemote}
use Rattle.remote_requests.proofs.RemoteBegun.{still_own, with_gone}
use Rattle.drop_worker.proofs.Goings.{awaits_later, remote_other}
use Rattle.remote_requests.proofs.Apart.{stays_in}
use Rattle.drop_worker.proofs.machine.step_remote.Goals as goal

pub returns-in-Some-clause-did : goal.returns-in-Some-clause-did
returns-in-Some-clause-did g c =
    hears_remotely (g.H.Here.reading c.args.here.now) (g.H.Here.ends c.args.here.now) c.args.input.now.time c.args.input.now.number c.args.table.now c.hear.new.table (store (g.K.Keeper.contents c.args.keeper.now) (g.K.Keeper.records c.args.keeper.now) (g.K.Keeper.faults c.args.keeper.now)) (store (g.K.Keeper.contents c.hear.new.keeper) (g.K.Keeper.records c.hear.new.keeper) (g.K.Keeper.faults c.hear.new.keeper))
    c.args.worker.now c.hear.new.worker c.in-Some.peer c.args.input.now.taken c.args.input.now.word c.hear.result (sym c.awaits.ensures ∙ c.in-Some.is) c.hear.ensures.did c.hear.ensures.word c.hear.ensures.answer

pub returns-in-None-clause-did : goal.returns-in-None-clause-did
returns-in-None-clause-did g c =
    acts_remotely (sight (g.H.Here.reading c.args.here.now) (g.H.Here.ends c.args.here.now) c.args.input.now.time c.args.input.now.number) c.args.table.now c.act.new.table (store (g.K.Keeper.contents c.args.keeper.now) (g.K.Keeper.records c.args.keeper.now) (g.K.Keeper.faults c.args.keeper.now)) (store (g.K.Keeper.contents c.act.new.keeper) (g.K.Keeper.records c.act.new.keeper) (g.K.Keeper.faults c.act.new.keeper))
    c.args.worker.now c.act.new.worker c.args.target c.args.input.now.taken c.args.input.now.word c.act.result c.requires.stands.remote.peer (sym c.awaits.ensures ∙ c.in-None.is) c.act.ensures.did

pub returns-in-Some-clause-numbered : goal.returns-in-Some-clause-numbered
returns-in-Some-clause-numbered g c = each_number c.args.input.now.number c.hear.result c.hear.ensures.numbered

pub returns-in-Some-clause-calls : goal.returns-in-Some-clause-calls
returns-in-Some-clause-calls g c =
    fed_makes (sight (g.H.Here.reading c.args.here.now) (g.H.Here.ends c.args.here.now) c.args.input.now.time c.args.input.now.number) (g.K.Keeper.contents c.args.keeper.now) c.args.table.now c.args.worker.now
    c.in-Some.peer c.args.input.now.taken (g.K.Keeper.failing c.args.keeper.now) (g.K.Keeper.failing c.hear.new.keeper) c.hear.result (sym c.awaits.ensures ∙ c.in-Some.is) (c.hear.ensures.calls c.args.input.now.number)

pub returns-in-None-clause-calls : goal.returns-in-None-clause-calls
returns-in-None-clause-calls g c =
    phase_makes (sight (g.H.Here.reading c.args.here.now) (g.H.Here.ends c.args.here.now) c.args.input.now.time c.args.input.now.number) (g.K.Keeper.contents c.args.keeper.now) c.args.table.now c.args.worker.now
    c.args.input.now.taken (g.K.Keeper.failing c.args.keeper.now) (g.K.Keeper.failing c.act.new.keeper) c.act.result (sym c.awaits.ensures ∙ c.in-None.is) c.act.ensures.calls

pub returns-in-Some-clause-begun : goal.returns-in-Some-clause-begun
returns-in-Some-clause-begun g c =
    with_gone (g.H.Here.reading c.args.here.now) c.args.worker.now c.hear.new.worker c.in-Some.peer c.hear.result
    (λ stands. remote_other (g.H.Here.reading c.args.here.now) c.args.target c.in-Some.peer c.args.worker.now c.requires.stands.remote.peer c.requires.other (sym c.awaits.ensures ∙ c.in-Some.is) stands) c.hear.ensures.begun

pub returns-in-Some-clause-own : goal.returns-in-Some-clause-own
returns-in-Some-clause-own g c =
    still_own (g.H.Here.reading c.args.here.now) c.args.table.now c.hear.new.table
    (store (g.K.Keeper.contents c.args.keeper.now) (g.K.Keeper.records c.args.keeper.now) (g.K.Keeper.faults c.args.keeper.now)) (store (g.K.Keeper.contents c.hear.new.keeper) (g.K.Keeper.records c.hear.new.keeper) (g.K.Keeper.faults c.hear.new.keeper)) c.args.worker.now c.hear.new.worker
    (TakesRemote (g.H.Here.reading c.args.here.now) (g.H.Here.ends c.args.here.now) c.args.input.now.time c.args.table.now c.hear.new.table c.in-Some.peer c.args.input.now.taken c.args.worker.now c.hear.new.worker) c.hear.result c.hear.ensures.did
    (c.requires.own (awaits_later c.args.worker.now c.in-Some.peer (sym c.awaits.ensures ∙ c.in-Some.is)))

pub returns-in-Some-clause-apart : goal.returns-in-Some-clause-apart
returns-in-Some-clause-apart g c = stays_in (g.H.Here.reading c.args.here.now).repo c.args.target c.args.worker.now c.hear.new.worker c.hear.result c.hear.ensures.apart
