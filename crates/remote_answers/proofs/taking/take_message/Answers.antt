-- What the proof of `remote_taking::take_message` needs beside the tactics.
use Rattle.std.proofs.Common.{ℕ, sym, ◌∙◌, subst}
use Rattle.std.specs.Prelude.{IfOk}
use Rattle.drop_phases.specs.declared.turn.Taken.TheVariants as takens
use Rattle.drop_phases.specs.Calling.{MakesFed}
use Rattle.drop_phases.specs.Doing.{Takes}
use Rattle.drop_phases.specs.Leaving.{store}
use Rattle.remote_requests.specs.Remote.{TakesRemote}
use Rattle.drop_phases.specs.declared.phase.Phase.{Phase}
use Rattle.drop_phases.specs.Working.{sight}
use Rattle.remote_requests.proofs.RemoteLeavings.{spoken_well}
use Rattle.drop_phases.proofs.FrameCalls.{IsTime, spoken_makes}
use Rattle.remote_answers.proofs.Feedings.{asked_peer, at_rows, ordered_peer, speaks_did, takes_so}
use Rattle.remote_requests.proofs.RemoteLeavings.{speaks_numbered}
use Rattle.drop_phases.specs.Begun.{GoesWith}
use Rattle.remote_answers.proofs.taking.take_message.Goals as goal

pub returns-in-Opens-clause-did : goal.returns-in-Opens-clause-did
returns-in-Opens-clause-did g c =
    let w = c.args.worker.now in
    let w' = c.take_opened.new.worker in
    let read = g.H.Here.reading c.args.here.now in
    let ends = g.H.Here.ends c.args.here.now in
    let m = c.args.message.now in
    speaks_did c.args.target c.args.table.now (store (g.K.Keeper.contents c.args.keeper.now) (g.K.Keeper.records c.args.keeper.now) (g.K.Keeper.faults c.args.keeper.now)) w w'
    (TakesRemote read ends c.args.input.now.time c.args.table.now c.args.table.now c.args.peer (takens.Message m) w w') c.take_opened.result c.requires.stands (takes_so read ends c.args.input.now.time c.args.table.now c.args.peer m w w' c.take_opened.result c.take_opened.ensures.does) c.take_opened.ensures.speaks c.take_opened.ensures.err

pub returns-in-AsksLock-clause-did : goal.returns-in-AsksLock-clause-did
returns-in-AsksLock-clause-did g c =
    let w = c.args.worker.now in
    let w' = c.take_lock.new.worker in
    let read = g.H.Here.reading c.args.here.now in
    let ends = g.H.Here.ends c.args.here.now in
    let m = c.args.message.now in
    speaks_did c.args.target c.args.table.now (store (g.K.Keeper.contents c.args.keeper.now) (g.K.Keeper.records c.args.keeper.now) (g.K.Keeper.faults c.args.keeper.now)) w w'
    (TakesRemote read ends c.args.input.now.time c.args.table.now c.args.table.now c.args.peer (takens.Message m) w w') c.take_lock.result c.requires.stands (takes_so read ends c.args.input.now.time c.args.table.now c.args.peer m w w' c.take_lock.result c.take_lock.ensures.does) c.take_lock.ensures.speaks c.take_lock.ensures.err

pub returns-in-AsksLook-clause-did : goal.returns-in-AsksLook-clause-did
returns-in-AsksLook-clause-did g c =
    let w = c.args.worker.now in
    let w' = c.take_look.new.worker in
    let read = g.H.Here.reading c.args.here.now in
    let ends = g.H.Here.ends c.args.here.now in
    let m = c.args.message.now in
    speaks_did c.args.target c.args.table.now (store (g.K.Keeper.contents c.args.keeper.now) (g.K.Keeper.records c.args.keeper.now) (g.K.Keeper.faults c.args.keeper.now)) w w'
    (TakesRemote read ends c.args.input.now.time c.args.table.now c.args.table.now c.args.peer (takens.Message m) w w') c.take_look.result c.requires.stands (takes_so read ends c.args.input.now.time c.args.table.now c.args.peer m w w' c.take_look.result c.take_look.ensures.does) c.take_look.ensures.speaks c.take_look.ensures.err

pub returns-in-Greets-clause-did : goal.returns-in-Greets-clause-did
returns-in-Greets-clause-did g c =
    let w = c.args.worker.now in
    let w' = c.take_version.new.worker in
    let read = g.H.Here.reading c.args.here.now in
    let ends = g.H.Here.ends c.args.here.now in
    let m = c.args.message.now in
    speaks_did c.args.target c.args.table.now (store (g.K.Keeper.contents c.args.keeper.now) (g.K.Keeper.records c.args.keeper.now) (g.K.Keeper.faults c.args.keeper.now)) w w'
    (TakesRemote read ends c.args.input.now.time c.args.table.now c.args.table.now c.args.peer (takens.Message m) w w') c.take_version.result c.requires.stands (at_rows read ends c.args.input.now.time c.args.table.now c.args.peer (takens.Message m) w w' c.take_version.result c.take_version.ensures.does) c.take_version.ensures.speaks c.take_version.ensures.err

pub returns-in-Orders-clause-did : goal.returns-in-Orders-clause-did
returns-in-Orders-clause-did g c =
    let w = c.args.worker.now in
    let w' = c.take_answer.new.worker in
    let read = g.H.Here.reading c.args.here.now in
    let ends = g.H.Here.ends c.args.here.now in
    let m = c.args.message.now in
    speaks_did c.args.target c.args.table.now (store (g.K.Keeper.contents c.args.keeper.now) (g.K.Keeper.records c.args.keeper.now) (g.K.Keeper.faults c.args.keeper.now)) w w'
    (TakesRemote read ends c.args.input.now.time c.args.table.now c.args.table.now c.args.peer (takens.Message m) w w') c.take_answer.result c.requires.stands
    (takes_so read ends c.args.input.now.time c.args.table.now c.args.peer m w w' c.take_answer.result
    (subst (λ (q : ℕ). IfOk c.take_answer.result (Takes c.args.input.now.time q m w w')) (ordered_peer w c.args.target c.args.peer c.requires.stands.remote.peer (sym c.phase.ensures ∙ c.in-Orders.is) c.requires.awaits) c.take_answer.ensures.does))
    c.take_answer.ensures.speaks c.take_answer.ensures.err

pub returns-in-Opens-clause-numbered : goal.returns-in-Opens-clause-numbered
returns-in-Opens-clause-numbered g c = speaks_numbered c.args.worker.now c.take_opened.new.worker c.take_opened.result c.take_opened.ensures.speaks

pub returns-in-Greets-clause-numbered : goal.returns-in-Greets-clause-numbered
returns-in-Greets-clause-numbered g c = speaks_numbered c.args.worker.now c.take_version.new.worker c.take_version.result c.take_version.ensures.speaks

pub returns-in-AsksLock-clause-numbered : goal.returns-in-AsksLock-clause-numbered
returns-in-AsksLock-clause-numbered g c = speaks_numbered c.args.worker.now c.take_lock.new.worker c.take_lock.result c.take_lock.ensures.speaks

pub returns-in-AsksLook-clause-numbered : goal.returns-in-AsksLook-clause-numbered
returns-in-AsksLook-clause-numbered g c = speaks_numbered c.args.worker.now c.take_look.new.worker c.take_look.result c.take_look.ensures.speaks

pub returns-in-Orders-clause-numbered : goal.returns-in-Orders-clause-numbered
returns-in-Orders-clause-numbered g c = speaks_numbered c.args.worker.now c.take_answer.new.worker c.take_answer.result c.take_answer.ensures.speaks

pub returns-in-Opens-clause-calls : goal.returns-in-Opens-clause-calls
returns-in-Opens-clause-calls g c = λ number.
    spoken_makes (sight (g.H.Here.reading c.args.here.now) (g.H.Here.ends c.args.here.now) c.args.input.now.time number) c.args.table.now c.args.worker.now c.args.peer c.args.message.now (g.K.Keeper.failing c.args.keeper.now) c.take_opened.result
    (spoken_well c.args.worker.now c.take_opened.new.worker c.take_opened.result c.take_opened.ensures.speaks) (λ time. subst (λ (ph : Phase). IsTime ph c.args.message.now) (sym c.phase.ensures ∙ c.in-Opens.is) time)

pub returns-in-Greets-clause-calls : goal.returns-in-Greets-clause-calls
returns-in-Greets-clause-calls g c = λ number.
    spoken_makes (sight (g.H.Here.reading c.args.here.now) (g.H.Here.ends c.args.here.now) c.args.input.now.time number) c.args.table.now c.args.worker.now c.args.peer c.args.message.now (g.K.Keeper.failing c.args.keeper.now) c.take_version.result
    (spoken_well c.args.worker.now c.take_version.new.worker c.take_version.result c.take_version.ensures.speaks) (λ time. subst (λ (ph : Phase). IsTime ph c.args.message.now) (sym c.phase.ensures ∙ c.in-Greets.is) time)

pub returns-in-AsksLock-clause-calls : goal.returns-in-AsksLock-clause-calls
returns-in-AsksLock-clause-calls g c = λ number.
    spoken_makes (sight (g.H.Here.reading c.args.here.now) (g.H.Here.ends c.args.here.now) c.args.input.now.time number) c.args.table.now c.args.worker.now c.args.peer c.args.message.now (g.K.Keeper.failing c.args.keeper.now) c.take_lock.result
    (spoken_well c.args.worker.now c.take_lock.new.worker c.take_lock.result c.take_lock.ensures.speaks) (λ time. subst (λ (ph : Phase). IsTime ph c.args.message.now) (sym c.phase.ensures ∙ c.in-AsksLock.is) time)

pub returns-in-AsksLook-clause-calls : goal.returns-in-AsksLook-clause-calls
returns-in-AsksLook-clause-calls g c = λ number.
    spoken_makes (sight (g.H.Here.reading c.args.here.now) (g.H.Here.ends c.args.here.now) c.args.input.now.time number) c.args.table.now c.args.worker.now c.args.peer c.args.message.now (g.K.Keeper.failing c.args.keeper.now) c.take_look.result
    (spoken_well c.args.worker.now c.take_look.new.worker c.take_look.result c.take_look.ensures.speaks) (λ time. subst (λ (ph : Phase). IsTime ph c.args.message.now) (sym c.phase.ensures ∙ c.in-AsksLook.is) time)

pub returns-in-Orders-clause-calls : goal.returns-in-Orders-clause-calls
returns-in-Orders-clause-calls g c = λ number.
    spoken_makes (sight (g.H.Here.reading c.args.here.now) (g.H.Here.ends c.args.here.now) c.args.input.now.time number) c.args.table.now c.args.worker.now c.args.peer c.args.message.now (g.K.Keeper.failing c.args.keeper.now) c.take_answer.result
    (spoken_well c.args.worker.now c.take_answer.new.worker c.take_answer.result c.take_answer.ensures.speaks) (λ time. subst (λ (ph : Phase). IsTime ph c.args.message.now) (sym c.phase.ensures ∙ c.in-Orders.is) time)

pub returns-in-AsksTime-clause-calls : goal.returns-in-AsksTime-clause-calls
returns-in-AsksTime-clause-calls g c = λ number.
    subst (λ (q : ℕ). MakesFed (sight (g.H.Here.reading c.args.here.now) (g.H.Here.ends c.args.here.now) c.args.input.now.time number) c.args.table.now c.args.worker.now q (takens.Message c.args.message.now) (g.K.Keeper.failing c.args.keeper.now)
    (g.K.Keeper.failing c.take_time.new.keeper) c.take_time.result)
    (asked_peer c.args.worker.now c.args.target c.args.peer c.requires.stands.remote.peer (sym c.phase.ensures ∙ c.in-AsksTime.is) c.requires.awaits) (c.take_time.ensures.calls number)

pub returns-in-AsksTime-clause-begun : goal.returns-in-AsksTime-clause-begun
returns-in-AsksTime-clause-begun g c =
    subst (λ (q : ℕ). IfOk c.take_time.result (GoesWith q c.args.worker.now c.take_time.new.worker)) (asked_peer c.args.worker.now c.args.target c.args.peer c.requires.stands.remote.peer (sym c.phase.ensures ∙ c.in-AsksTime.is) c.requires.awaits) c.take_time.ensures.begun

pub returns-in-Orders-clause-begun : goal.returns-in-Orders-clause-begun
returns-in-Orders-clause-begun g c =
    subst (λ (q : ℕ). IfOk c.take_answer.result (GoesWith q c.args.worker.now c.take_answer.new.worker)) (ordered_peer c.args.worker.now c.args.target c.args.peer c.requires.stands.remote.peer (sym c.phase.ensures ∙ c.in-Orders.is) c.requires.awaits) c.take_answer.ensures.begun
