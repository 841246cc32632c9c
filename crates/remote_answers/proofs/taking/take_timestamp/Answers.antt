-- What the proof of `remote_taking::take_timestamp` needs beside the tactics.
use Rattle.std.proofs.Common.{None, refl}
use Rattle.p2p_wire.specs.declared.message.Message.TheVariants.{Timestamp}
use Rattle.drop_phases.specs.declared.turn.Taken.TheVariants as takens
use Rattle.drop_phases.specs.Leaving.{store}
use Rattle.remote_requests.specs.Remote.{TakesRemote}
use Rattle.remote_requests.proofs.RemoteLeavings.{spoken_well}
use Rattle.remote_answers.proofs.TimeCalls.{untold_makes}
use Rattle.remote_answers.proofs.Feedings.{at_rows, lost_takes, speaks_did}
use Rattle.remote_answers.proofs.Losses.{shuts_speaks}
use Rattle.remote_answers.proofs.Timing.{no_time}
use Rattle.remote_requests.proofs.RemoteBegun.{shuts_gone}
use Rattle.remote_requests.proofs.Apart.{shuts_stays}
use Rattle.remote_answers.proofs.taking.take_timestamp.Goals as goal

pub returns-then-now-ge-NO_TIME-clause-did : goal.returns-then-now-ge-NO_TIME-clause-did
returns-then-now-ge-NO_TIME-clause-did g c =
    let w = c.args.worker.now in
    let w' = c.shut.new.worker in
    let read = g.H.Here.reading c.args.here.now in
    let ends = g.H.Here.ends c.args.here.now in
    let target = c.args.target in
    let m = Timestamp c.args.now in
    speaks_did target c.args.table.now (store (g.K.Keeper.contents c.args.keeper.now) (g.K.Keeper.records c.args.keeper.now) (g.K.Keeper.faults c.args.keeper.now)) w w'
    (TakesRemote read ends c.args.time c.args.table.now c.args.table.now target (takens.Message m) w w') c.shut.result c.requires.stands
    (at_rows read ends c.args.time c.args.table.now target (takens.Message m) w w' c.shut.result
    (lost_takes read ends c.args.time w w' target target m c.shut.result c.requires.stands.remote c.shut.ensures.shuts (λ rest f line. rw c.requires.at refl) (rw c.requires.at c.requires.stands.remote.peer)
    (λ x rows p rest f. no_time x rows p None rest w f target c.args.now c.requires.stands.remote c.requires.at c.if-now-ge-NO_TIME.true)))
    (shuts_speaks w w' target target c.shut.result c.shut.ensures.shuts) c.shut.ensures.err

pub returns-then-now-ge-NO_TIME-clause-calls : goal.returns-then-now-ge-NO_TIME-clause-calls
returns-then-now-ge-NO_TIME-clause-calls g c = λ number.
    untold_makes (g.H.Here.reading c.args.here.now) (g.H.Here.ends c.args.here.now) c.args.time number c.args.table.now c.args.worker.now c.args.target c.args.now c.requires.stands.remote c.requires.at (g.K.Keeper.failing c.args.keeper.now) c.shut.result
    c.if-now-ge-NO_TIME.true (spoken_well c.args.worker.now c.shut.new.worker c.shut.result (shuts_speaks c.args.worker.now c.shut.new.worker c.args.target c.args.target c.shut.result c.shut.ensures.shuts))

pub returns-then-now-ge-NO_TIME-clause-begun : goal.returns-then-now-ge-NO_TIME-clause-begun
returns-then-now-ge-NO_TIME-clause-begun g c = shuts_gone c.args.worker.now c.shut.new.worker c.args.target c.args.target c.shut.result c.shut.ensures.shuts

pub returns-then-now-ge-NO_TIME-clause-apart : goal.returns-then-now-ge-NO_TIME-clause-apart
returns-then-now-ge-NO_TIME-clause-apart g c = shuts_stays c.args.target c.args.target c.args.worker.now c.shut.new.worker c.shut.result c.shut.ensures.shuts
