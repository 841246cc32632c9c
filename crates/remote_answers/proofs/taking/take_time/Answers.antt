-- What the proof of `remote_taking::take_time` needs beside the tactics.
use Rattle.std.proofs.Common.{None, refl, subst}
use Rattle.drop_phases.specs.declared.turn.Taken.TheVariants as takens
use Rattle.drop_phases.specs.Leaving.{store}
use Rattle.remote_requests.specs.Remote.{TakesRemote}
use Rattle.drop_phases.specs.Working.{sight, turn_in}
use Rattle.drop_phases.specs.declared.phase.Phase.{Phase}
use Rattle.remote_requests.proofs.RemoteLeavings.{spoken_well}
use Rattle.drop_phases.proofs.FrameCalls.{IsTime, spoken_makes, time_other}
use Rattle.remote_answers.proofs.Feedings.{at_rows, lost_takes, speaks_did, time_else}
use Rattle.remote_answers.proofs.Losses.{shuts_speaks}
use Rattle.remote_requests.proofs.RemoteBegun.{shuts_gone}
use Rattle.remote_requests.proofs.Apart.{shuts_stays}
use Rattle.remote_answers.proofs.taking.take_time.Goals as goal

pub returns-in-Timestamp-clause-did : goal.returns-in-Timestamp-clause-did
returns-in-Timestamp-clause-did g c = rw c.in-Timestamp.is c.take_timestamp.ensures.did

pub returns-in_default-clause-did : goal.returns-in_default-clause-did
returns-in_default-clause-did g c =
    let w = c.args.worker.now in
    let w' = c.shut.new.worker in
    let read = g.H.Here.reading c.args.here.now in
    let ends = g.H.Here.ends c.args.here.now in
    let target = c.args.target in
    let m = c.args.message.now in
    speaks_did target c.args.table.now (store (g.K.Keeper.contents c.args.keeper.now) (g.K.Keeper.records c.args.keeper.now) (g.K.Keeper.faults c.args.keeper.now)) w w'
    (TakesRemote read ends c.args.time c.args.table.now c.args.table.now target (takens.Message m) w w') c.shut.result c.requires.stands
    (at_rows read ends c.args.time c.args.table.now target (takens.Message m) w w' c.shut.result
    (lost_takes read ends c.args.time w w' target target m c.shut.result c.requires.stands.remote c.shut.ensures.shuts (λ rest f line. rw c.requires.at refl) (rw c.requires.at c.requires.stands.remote.peer)
    (λ x rows p rest f. rw c.requires.at (time_else (turn_in x rows p None rest w) f target m c.in_default.not-Timestamp))))
    (shuts_speaks w w' target target c.shut.result c.shut.ensures.shuts) c.shut.ensures.err

pub returns-in-Timestamp-clause-calls : goal.returns-in-Timestamp-clause-calls
returns-in-Timestamp-clause-calls g c = rw c.in-Timestamp.is c.take_timestamp.ensures.calls

pub returns-in_default-clause-calls : goal.returns-in_default-clause-calls
returns-in_default-clause-calls g c = λ number.
    spoken_makes (sight (g.H.Here.reading c.args.here.now) (g.H.Here.ends c.args.here.now) c.args.time number) c.args.table.now c.args.worker.now c.args.target c.args.message.now (g.K.Keeper.failing c.args.keeper.now) c.shut.result
    (spoken_well c.args.worker.now c.shut.new.worker c.shut.result (shuts_speaks c.args.worker.now c.shut.new.worker c.args.target c.args.target c.shut.result c.shut.ensures.shuts))
    (λ time. time_other c.args.message.now c.in_default.not-Timestamp (subst (λ (ph : Phase). IsTime ph c.args.message.now) c.requires.at time))

pub returns-in_default-clause-begun : goal.returns-in_default-clause-begun
returns-in_default-clause-begun g c = shuts_gone c.args.worker.now c.shut.new.worker c.args.target c.args.target c.shut.result c.shut.ensures.shuts

pub returns-in_default-clause-apart : goal.returns-in_default-clause-apart
returns-in_default-clause-apart g c = shuts_stays c.args.target c.args.target c.args.worker.now c.shut.new.worker c.shut.result c.shut.ensures.shuts
