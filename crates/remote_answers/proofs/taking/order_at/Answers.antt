-- What the proof of `remote_taking::order_at` needs beside the tactics.
use Rattle.std.proofs.Common.{None, refl, sym, ◌∙◌}
use Rattle.std.proofs.lemmas.Result.{IfOk-weaker}
use Rattle.p2p_wire.specs.declared.message.Message.TheVariants.{Timestamp}
use Rattle.drop_phases.specs.declared.turn.Taken.TheVariants as takens
use Rattle.drop_phases.specs.Leaving.{store}
use Rattle.remote_requests.specs.Remote.{Says, Speaks, TakesRemote, order_of}
use Rattle.remote_requests.proofs.RemoteLeavings.{spoken_well}
use Rattle.remote_answers.proofs.TimeCalls.{order_makes}
use Rattle.remote_answers.proofs.Feedings.{speaks_did}
use Rattle.remote_answers.proofs.Timing.{order_plain, order_speaks, order_takes}
use Rattle.remote_requests.proofs.RemoteBegun.{order_gone}
use Rattle.remote_requests.proofs.Apart.{order_stays}
use Rattle.remote_answers.proofs.taking.order_at.Goals as goal

pub returns-in-None-clause-did : goal.returns-in-None-clause-did
returns-in-None-clause-did g c =
    let w = c.args.worker.now in
    let w' = c.order.new.worker in
    let read = g.H.Here.reading c.args.here.now in
    let ends = g.H.Here.ends c.args.here.now in
    let target = c.args.target in
    let remote = c.requires.stands.remote in
    let lines = rw c.key.ensures at c.reads_all.ensures in
    speaks_did target c.args.table.now (store (g.K.Keeper.contents c.args.keeper.now) (g.K.Keeper.records c.args.keeper.now) (g.K.Keeper.faults c.args.keeper.now)) w w'
    (TakesRemote read ends c.args.time c.args.table.now c.args.table.now target (takens.Message (Timestamp c.args.now)) w w') c.order.result c.requires.stands
    (IfOk-weaker c.order.result (Says (order_of read.need w target None) target w w') (TakesRemote read ends c.args.time c.args.table.now c.args.table.now target (takens.Message (Timestamp c.args.now)) w w') (λ out s.
    order_takes read ends c.args.time w target c.args.now remote c.requires.at w' None out c.args.table.now c.requires.early lines.order.0 s
    (λ number p rest f. order_plain read ends c.args.time w target c.args.now remote c.requires.at (sym c.in-None.is ∙ c.in_ok-locks_end.ensures) number c.args.table.now p rest f)) c.order.ensures.says)
    (IfOk-weaker c.order.result (Says (order_of read.need w target None) target w w') (Speaks w w') (λ out s. order_speaks read w w' target None out s) c.order.ensures.says) c.order.ensures.err

pub returns-in-None-clause-calls : goal.returns-in-None-clause-calls
returns-in-None-clause-calls g c = λ number.
    order_makes (g.H.Here.reading c.args.here.now) (g.H.Here.ends c.args.here.now) c.args.time number c.args.table.now c.args.worker.now c.args.target c.args.now c.requires.stands.remote c.requires.at None (g.K.Keeper.failing c.args.keeper.now) c.order.result
    c.requires.early (sym c.in-None.is ∙ c.in_ok-locks_end.ensures) (λ t f clocks time. refl)
    (spoken_well c.args.worker.now c.order.new.worker c.order.result (IfOk-weaker c.order.result (Says (order_of (g.H.Here.reading c.args.here.now).need c.args.worker.now c.args.target None) c.args.target c.args.worker.now c.order.new.worker) (Speaks c.args.worker.now c.order.new.worker) (λ out s. order_speaks (g.H.Here.reading c.args.here.now) c.args.worker.now c.order.new.worker c.args.target None out s)
    c.order.ensures.says))

pub returns-in-None-clause-begun : goal.returns-in-None-clause-begun
returns-in-None-clause-begun g c =
    order_gone (g.H.Here.reading c.args.here.now).need c.args.worker.now c.order.new.worker c.args.target None c.order.result c.order.ensures.says

pub returns-in-None-clause-apart : goal.returns-in-None-clause-apart
returns-in-None-clause-apart g c =
    order_stays c.args.target (g.H.Here.reading c.args.here.now).need c.args.worker.now c.order.new.worker None c.order.result c.order.ensures.says
