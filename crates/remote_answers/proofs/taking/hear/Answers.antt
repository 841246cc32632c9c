-- What the proof of `remote_taking::hear` needs beside the tactics.
use Rattle.std.proofs.Common.{◌≡◌, sym, ◌∙◌}
use Rattle.drop_phases.specs.declared.turn.Taken.TheVariants as takens
use Rattle.drop_phases.specs.Working.{sight}
use Rattle.drop_phases.specs.Leaving.{store}
use Rattle.remote_requests.specs.Remote.{TakesRemote}
use Rattle.remote_requests.proofs.RemoteLeavings.{spoken_well}
use Rattle.drop_phases.proofs.FrameCalls.{unsaid_makes}
use Rattle.remote_answers.proofs.Feedings.{closed_so, other_so, speaks_did}
use Rattle.remote_requests.proofs.RemoteLeavings.{speaks_numbered}
use Rattle.remote_answers.proofs.taking.hear.Goals as goal

pub returns-in-Message-clause-did : goal.returns-in-Message-clause-did
returns-in-Message-clause-did g c = rw c.in-Message.is c.take_message.ensures.did

pub returns-in-Other-clause-did : goal.returns-in-Other-clause-did
returns-in-Other-clause-did g c =
    let w = c.args.worker.now in
    let w' = c.take_other.new.worker in
    let read = g.H.Here.reading c.args.here.now in
    let ends = g.H.Here.ends c.args.here.now in
    rw c.in-Other.is (speaks_did c.args.target c.args.table.now (store (g.K.Keeper.contents c.args.keeper.now) (g.K.Keeper.records c.args.keeper.now) (g.K.Keeper.faults c.args.keeper.now)) w w'
    (TakesRemote read ends c.args.input.now.time c.args.table.now c.args.table.now c.args.peer takens.Other w w') c.take_other.result c.requires.stands (other_so read ends c.args.input.now.time c.args.table.now c.args.peer w w' c.take_other.result c.take_other.ensures.does) c.take_other.ensures.speaks c.take_other.ensures.err)

pub returns-in-Closed-clause-did : goal.returns-in-Closed-clause-did
returns-in-Closed-clause-did g c =
    let w = c.args.worker.now in
    let w' = c.close.new.worker in
    let read = g.H.Here.reading c.args.here.now in
    let ends = g.H.Here.ends c.args.here.now in
    rw c.in-Closed.is (speaks_did c.args.target c.args.table.now (store (g.K.Keeper.contents c.args.keeper.now) (g.K.Keeper.records c.args.keeper.now) (g.K.Keeper.faults c.args.keeper.now)) w w'
    (TakesRemote read ends c.args.input.now.time c.args.table.now c.args.table.now c.args.peer takens.Closed w w') c.close.result c.requires.stands (closed_so read ends c.args.input.now.time c.args.table.now c.args.peer w w' c.close.result c.close.ensures.does c.close.ensures.here) c.close.ensures.speaks c.close.ensures.err)

pub returns-in-Other-clause-numbered : goal.returns-in-Other-clause-numbered
returns-in-Other-clause-numbered g c = speaks_numbered c.args.worker.now c.take_other.new.worker c.take_other.result c.take_other.ensures.speaks

pub returns-in-Closed-clause-numbered : goal.returns-in-Closed-clause-numbered
returns-in-Closed-clause-numbered g c = speaks_numbered c.args.worker.now c.close.new.worker c.close.result c.close.ensures.speaks

pub returns-in-Message-clause-calls : goal.returns-in-Message-clause-calls
returns-in-Message-clause-calls g c = rw c.in-Message.is c.take_message.ensures.calls

pub returns-in-Other-clause-calls : goal.returns-in-Other-clause-calls
returns-in-Other-clause-calls g c = λ number.
    unsaid_makes (sight (g.H.Here.reading c.args.here.now) (g.H.Here.ends c.args.here.now) c.args.input.now.time number) c.args.table.now c.args.worker.now c.args.peer c.args.input.now.taken (g.K.Keeper.failing c.args.keeper.now) c.take_other.result
    (λ m is. let both : takens.Other ≡ takens.Message m = sym c.in-Other.is ∙ is in cc) (spoken_well c.args.worker.now c.take_other.new.worker c.take_other.result c.take_other.ensures.speaks)

pub returns-in-Closed-clause-calls : goal.returns-in-Closed-clause-calls
returns-in-Closed-clause-calls g c = λ number.
    unsaid_makes (sight (g.H.Here.reading c.args.here.now) (g.H.Here.ends c.args.here.now) c.args.input.now.time number) c.args.table.now c.args.worker.now c.args.peer c.args.input.now.taken (g.K.Keeper.failing c.args.keeper.now) c.close.result
    (λ m is. let both : takens.Closed ≡ takens.Message m = sym c.in-Closed.is ∙ is in cc) (spoken_well c.args.worker.now c.close.new.worker c.close.result c.close.ensures.speaks)
