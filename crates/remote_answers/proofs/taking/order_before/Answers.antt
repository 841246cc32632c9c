-- What the proof of `remote_taking::order_before` needs beside the tactics.
use Rattle.std.proofs.Common.{Some, arith}
use Rattle.std.proofs.lemmas.Result.{IfOk-weaker}
use Rattle.run_data.specs.declared.job.DropRefusal.TheVariants as refusals
use Rattle.run_data.specs.declared.job.Outcome.TheVariants.{Refused}
use Rattle.p2p_wire.specs.declared.message.Message.TheVariants.{Timestamp}
use Rattle.drop_phases.specs.declared.turn.Taken.TheVariants as takens
use Rattle.drop_phases.specs.Leaving.{store}
use Rattle.remote_requests.specs.Remote.{EndsSo, Says, Speaks, TakesRemote, order_of}
use Rattle.remote_requests.proofs.RemoteLeavings.{spoken_well}
use Rattle.remote_answers.proofs.TimeCalls.{expired_makes, order_makes, timed_none}
use Rattle.remote_answers.proofs.Feedings.{speaks_did}
use Rattle.remote_requests.proofs.RemoteLeavings.{remote_did_as}
use Rattle.remote_answers.proofs.Timing.{late_takes, order_speaks, order_takes, order_timed}
use Rattle.remote_requests.proofs.RemoteBegun.{order_gone, timed_gone}
use Rattle.remote_requests.proofs.Apart.{end_stays, order_stays}
use Rattle.remote_answers.proofs.taking.order_before.Goals as goal

pub returns-in-Ok-clause-did : goal.returns-in-Ok-clause-did
returns-in-Ok-clause-did g c =
    let w = c.args.worker.now in
    let w' = c.order.new.worker in
    let read = g.H.Here.reading c.args.here.now in
    let ends = g.H.Here.ends c.args.here.now in
    let target = c.args.target in
    let before = c.in-Ok.before in
    let remote = c.requires.stands.remote in
    let lines = rw c.key.ensures at c.reads_all.ensures in
    speaks_did target c.args.table.now (store (g.K.Keeper.contents c.args.keeper.now) (g.K.Keeper.records c.args.keeper.now) (g.K.Keeper.faults c.args.keeper.now)) w w'
    (TakesRemote read ends c.args.time c.args.table.now c.args.table.now target (takens.Message (Timestamp c.args.now)) w w') c.order.result c.requires.stands
    (IfOk-weaker c.order.result (Says (order_of read.need w target (Some before)) target w w') (TakesRemote read ends c.args.time c.args.table.now c.args.table.now target (takens.Message (Timestamp c.args.now)) w w') (λ out s.
    order_takes read ends c.args.time w target c.args.now remote c.requires.at w' (Some before) out c.args.table.now c.requires.early (lines.timed before (omega (arith, c.in-Ok.ensures.told.1, c.requires.early))).0 s
    (λ number p rest f. order_timed read ends c.args.time w target c.args.now remote c.requires.at c.clock-clock.result c.args.end before c.requires.known c.clock-clock.ensures.same c.in-Ok.ensures.told.0 c.in-Ok.ensures.told.1 number c.args.table.now p rest f)) c.order.ensures.says)
    (IfOk-weaker c.order.result (Says (order_of read.need w target (Some before)) target w w') (Speaks w w') (λ out s. order_speaks read w w' target (Some before) out s) c.order.ensures.says) c.order.ensures.err

pub returns-in-Err-clause-did : goal.returns-in-Err-clause-did
returns-in-Err-clause-did g c =
    let w = c.args.worker.now in
    let w' = c.finish.new.worker in
    let read = g.H.Here.reading c.args.here.now in
    let ends = g.H.Here.ends c.args.here.now in
    let target = c.args.target in
    let why = Refused (refusals.Expired c.args.end c.clock-clock.result) in
    remote_did_as c.args.table.now c.finish.new.table (store (g.K.Keeper.contents c.args.keeper.now) (g.K.Keeper.records c.args.keeper.now) (g.K.Keeper.faults c.args.keeper.now)) (store (g.K.Keeper.contents c.finish.new.keeper) (g.K.Keeper.records c.finish.new.keeper) (g.K.Keeper.faults c.finish.new.keeper)) w w'
    (EndsSo read ends c.args.time c.args.table.now c.finish.new.table w w' why) (TakesRemote read ends c.args.time c.args.table.now c.finish.new.table target (takens.Message (Timestamp c.args.now)) w w') c.finish.result c.finish.ensures.did
    (λ out d. late_takes read ends c.args.time w target c.args.now c.requires.stands.remote c.requires.at c.args.table.now c.finish.new.table w' c.clock-clock.result c.args.end out c.requires.early c.requires.known c.clock-clock.ensures.same c.in-Err.ensures.told.0 d)

pub returns-in-Ok-clause-calls : goal.returns-in-Ok-clause-calls
returns-in-Ok-clause-calls g c = λ number.
    order_makes (g.H.Here.reading c.args.here.now) (g.H.Here.ends c.args.here.now) c.args.time number c.args.table.now c.args.worker.now c.args.target c.args.now c.requires.stands.remote c.requires.at (Some c.args.end) (g.K.Keeper.failing c.args.keeper.now) c.order.result
    c.requires.early c.requires.known (timed_none (g.H.Here.reading c.args.here.now) (g.H.Here.ends c.args.here.now) c.args.time number c.args.table.now c.args.worker.now c.args.target c.args.now c.requires.stands.remote c.requires.at c.clock-clock.result c.args.end c.clock-clock.ensures.same c.in-Ok.ensures.told.0)
    (spoken_well c.args.worker.now c.order.new.worker c.order.result (IfOk-weaker c.order.result (Says (order_of (g.H.Here.reading c.args.here.now).need c.args.worker.now c.args.target (Some c.in-Ok.before)) c.args.target c.args.worker.now c.order.new.worker) (Speaks c.args.worker.now c.order.new.worker) (λ out s. order_speaks (g.H.Here.reading c.args.here.now) c.args.worker.now c.order.new.worker c.args.target (Some c.in-Ok.before) out s)
    c.order.ensures.says))

pub returns-in-Err-clause-calls : goal.returns-in-Err-clause-calls
returns-in-Err-clause-calls g c = λ number.
    expired_makes (g.H.Here.reading c.args.here.now) (g.H.Here.ends c.args.here.now) c.args.time number c.args.table.now c.args.worker.now c.args.target c.args.now c.requires.stands.remote c.requires.at c.clock-clock.result c.args.end (g.K.Keeper.failing c.args.keeper.now) (g.K.Keeper.failing c.finish.new.keeper) c.finish.result
    c.requires.early c.requires.known c.clock-clock.ensures.same c.in-Err.ensures.told.0 c.finish.ensures.calls

pub returns-in-Ok-clause-begun : goal.returns-in-Ok-clause-begun
returns-in-Ok-clause-begun g c =
    order_gone (g.H.Here.reading c.args.here.now).need c.args.worker.now c.order.new.worker c.args.target (Some c.in-Ok.before) c.order.result c.order.ensures.says

pub returns-in-Err-clause-begun : goal.returns-in-Err-clause-begun
returns-in-Err-clause-begun g c = timed_gone c.args.worker.now c.finish.new.worker c.args.target c.finish.result c.requires.at c.requires.stands.fits c.finish.ensures.begun

pub returns-in-Ok-clause-apart : goal.returns-in-Ok-clause-apart
returns-in-Ok-clause-apart g c =
    order_stays c.args.target (g.H.Here.reading c.args.here.now).need c.args.worker.now c.order.new.worker (Some c.in-Ok.before) c.order.result c.order.ensures.says

pub returns-in-Err-clause-apart : goal.returns-in-Err-clause-apart
returns-in-Err-clause-apart g c = end_stays c.args.target c.args.worker.now c.finish.new.worker c.finish.result c.finish.ensures.apart
