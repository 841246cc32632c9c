-- By the judgement.
use Rattle.std.proofs.Common.{None, refl}
use Rattle.run_data.specs.declared.job.DropRefusal.TheVariants as refusals
use Rattle.run_data.specs.declared.job.Outcome.TheVariants.{Refused}
use Rattle.node_model.specs.DropStep.{lacking_outcome}
use Rattle.drop_judging.specs.declared.judging.Verdict.TheVariants as verdicts
use Rattle.drop_phases.specs.Leaving.{store}
use Rattle.drop_phases.specs.Working.{sight, turn_in}
use Rattle.drop_judging.specs.Judging.{step_by}
use Rattle.drop_phases.proofs.Callings.{ended_well, ends_none, local_closed, over_none}
use Rattle.drop_phases.proofs.Doings.{bar_local}
use Rattle.local_drops.proofs.LocalCalls.{judged_makes}
use Rattle.drop_phases.proofs.FrameCalls.{opening_none}
use Rattle.local_drops.proofs.Judged.{judged_did}
use Rattle.local_drops.proofs.Goings.{ended_gone, removed_gone}
use Rattle.local_drops.proofs.acting.go_on.Goals as goal

pub returns-in-Asks-clause-does : goal.returns-in-Asks-clause-does
returns-in-Asks-clause-does g c = λ number.
    judged_did (g.H.Here.reading c.args.here.now) (g.H.Here.ends c.args.here.now) c.args.time number c.args.table.now c.args.table.now
    (store (g.K.Keeper.contents c.args.keeper.now) (g.K.Keeper.records c.args.keeper.now) (g.K.Keeper.faults c.args.keeper.now)) (store (g.K.Keeper.contents c.args.keeper.now) (g.K.Keeper.records c.args.keeper.now) (g.K.Keeper.faults c.args.keeper.now))
    c.args.worker.now c.ask.new.worker c.judge.result (verdicts.Asks c.in-Asks.peer) c.ask.result c.requires.next c.in-Asks.is c.judge.ensures.step (c.ask.ensures.does number c.args.table.now (store (g.K.Keeper.contents c.args.keeper.now) (g.K.Keeper.records c.args.keeper.now) (g.K.Keeper.faults c.args.keeper.now)) c.requires.owns)

pub returns-in-Removes-clause-does : goal.returns-in-Removes-clause-does
returns-in-Removes-clause-does g c = λ number.
    judged_did (g.H.Here.reading c.args.here.now) (g.H.Here.ends c.args.here.now) c.args.time number c.args.table.now c.remove.new.table
    (store (g.K.Keeper.contents c.args.keeper.now) (g.K.Keeper.records c.args.keeper.now) (g.K.Keeper.faults c.args.keeper.now)) (store (g.K.Keeper.contents c.remove.new.keeper) (g.K.Keeper.records c.remove.new.keeper) (g.K.Keeper.faults c.remove.new.keeper))
    c.args.worker.now c.remove.new.worker c.judge.result verdicts.Removes c.remove.result c.requires.next c.in-Removes.is c.judge.ensures.step (c.remove.ensures.does (sight (g.H.Here.reading c.args.here.now) (g.H.Here.ends c.args.here.now) c.args.time number))

pub returns-in-Late-clause-does : goal.returns-in-Late-clause-does
returns-in-Late-clause-does g c = λ number.
    judged_did (g.H.Here.reading c.args.here.now) (g.H.Here.ends c.args.here.now) c.args.time number c.args.table.now c.expire.new.table
    (store (g.K.Keeper.contents c.args.keeper.now) (g.K.Keeper.records c.args.keeper.now) (g.K.Keeper.faults c.args.keeper.now)) (store (g.K.Keeper.contents c.args.keeper.now) (g.K.Keeper.records c.args.keeper.now) (g.K.Keeper.faults c.args.keeper.now))
    c.args.worker.now c.expire.new.worker c.judge.result (verdicts.Late c.in-Late.end c.in-Late.clock) c.expire.result c.requires.next c.in-Late.is c.judge.ensures.step (c.expire.ensures.does c.args.time number (store (g.K.Keeper.contents c.args.keeper.now) (g.K.Keeper.records c.args.keeper.now) (g.K.Keeper.faults c.args.keeper.now)))

pub returns-clause-does : goal.returns-clause-does
returns-clause-does g c = λ number.
    judged_did (g.H.Here.reading c.args.here.now) (g.H.Here.ends c.args.here.now) c.args.time number c.args.table.now c.lack.new.table
    (store (g.K.Keeper.contents c.args.keeper.now) (g.K.Keeper.records c.args.keeper.now) (g.K.Keeper.faults c.args.keeper.now)) (store (g.K.Keeper.contents c.args.keeper.now) (g.K.Keeper.records c.args.keeper.now) (g.K.Keeper.faults c.args.keeper.now))
    c.args.worker.now c.lack.new.worker c.judge.result verdicts.Lacks c.lack.result c.requires.next c.in-Lacks.is c.judge.ensures.step (c.lack.ensures.does c.args.time number (store (g.K.Keeper.contents c.args.keeper.now) (g.K.Keeper.records c.args.keeper.now) (g.K.Keeper.faults c.args.keeper.now)))

pub ask-requires-clause-other : goal.ask-requires-clause-other
ask-requires-clause-other g c = c.judge.ensures.other c.in-Asks.peer c.in-Asks.is

pub returns-in-Removes-clause-begun : goal.returns-in-Removes-clause-begun
returns-in-Removes-clause-begun g c = removed_gone (g.H.Here.reading c.args.here.now) c.args.worker.now c.remove.new.worker c.remove.result c.remove.ensures.begun

pub returns-in-Late-clause-begun : goal.returns-in-Late-clause-begun
returns-in-Late-clause-begun g c = ended_gone (g.H.Here.reading c.args.here.now) c.args.worker.now c.expire.new.worker c.expire.result c.expire.ensures.ended

pub returns-clause-begun : goal.returns-clause-begun
returns-clause-begun g c = ended_gone (g.H.Here.reading c.args.here.now) c.args.worker.now c.lack.new.worker c.lack.result c.lack.ensures.ended

pub returns-in-Asks-clause-calls : goal.returns-in-Asks-clause-calls
returns-in-Asks-clause-calls g c = λ number.
    judged_makes (g.H.Here.reading c.args.here.now) (g.H.Here.ends c.args.here.now) c.args.time number (g.K.Keeper.contents c.args.keeper.now) c.args.table.now c.args.worker.now (g.K.Keeper.failing c.args.keeper.now) (g.K.Keeper.failing c.args.keeper.now) c.judge.result (verdicts.Asks c.in-Asks.peer) c.ask.result c.requires.next c.in-Asks.is c.judge.ensures.step
    (over_none (sight (g.H.Here.reading c.args.here.now) (g.H.Here.ends c.args.here.now) c.args.time number) (g.K.Keeper.contents c.args.keeper.now) c.args.table.now c.args.worker.now (step_by (verdicts.Asks c.in-Asks.peer)) (g.K.Keeper.failing c.args.keeper.now) c.ask.result c.ask.ensures.faultless (λ p fails rest. opening_none (turn_in (sight (g.H.Here.reading c.args.here.now) (g.H.Here.ends c.args.here.now) c.args.time number) c.args.table.now p fails rest c.args.worker.now) c.in-Asks.peer refl))

pub returns-in-Removes-clause-calls : goal.returns-in-Removes-clause-calls
returns-in-Removes-clause-calls g c = λ number.
    judged_makes (g.H.Here.reading c.args.here.now) (g.H.Here.ends c.args.here.now) c.args.time number (g.K.Keeper.contents c.args.keeper.now) c.args.table.now c.args.worker.now (g.K.Keeper.failing c.args.keeper.now) (g.K.Keeper.failing c.remove.new.keeper) c.judge.result verdicts.Removes c.remove.result c.requires.next c.in-Removes.is c.judge.ensures.step
    (c.remove.ensures.calls (sight (g.H.Here.reading c.args.here.now) (g.H.Here.ends c.args.here.now) c.args.time number))

pub returns-in-Late-clause-calls : goal.returns-in-Late-clause-calls
returns-in-Late-clause-calls g c = λ number.
    judged_makes (g.H.Here.reading c.args.here.now) (g.H.Here.ends c.args.here.now) c.args.time number (g.K.Keeper.contents c.args.keeper.now) c.args.table.now c.args.worker.now (g.K.Keeper.failing c.args.keeper.now) (g.K.Keeper.failing c.args.keeper.now) c.judge.result (verdicts.Late c.in-Late.end c.in-Late.clock) c.expire.result c.requires.next c.in-Late.is c.judge.ensures.step
    (over_none (sight (g.H.Here.reading c.args.here.now) (g.H.Here.ends c.args.here.now) c.args.time number) (g.K.Keeper.contents c.args.keeper.now) c.args.table.now c.args.worker.now (step_by (verdicts.Late c.in-Late.end c.in-Late.clock)) (g.K.Keeper.failing c.args.keeper.now) c.expire.result (ended_well c.args.worker.now c.expire.new.worker c.expire.result c.expire.ensures.ended) (λ p fails rest. ends_none (turn_in (sight (g.H.Here.reading c.args.here.now) (g.H.Here.ends c.args.here.now) c.args.time number) c.args.table.now p fails rest c.args.worker.now) None (Refused (refusals.Expired c.in-Late.end c.in-Late.clock)) (local_closed c.args.worker.now c.args.table.now (bar_local c.args.worker.now.token c.requires.bars) c.requires.owns)))

pub returns-clause-calls : goal.returns-clause-calls
returns-clause-calls g c = λ number.
    judged_makes (g.H.Here.reading c.args.here.now) (g.H.Here.ends c.args.here.now) c.args.time number (g.K.Keeper.contents c.args.keeper.now) c.args.table.now c.args.worker.now (g.K.Keeper.failing c.args.keeper.now) (g.K.Keeper.failing c.args.keeper.now) c.judge.result verdicts.Lacks c.lack.result c.requires.next c.in-Lacks.is c.judge.ensures.step
    (over_none (sight (g.H.Here.reading c.args.here.now) (g.H.Here.ends c.args.here.now) c.args.time number) (g.K.Keeper.contents c.args.keeper.now) c.args.table.now c.args.worker.now (step_by verdicts.Lacks) (g.K.Keeper.failing c.args.keeper.now) c.lack.result (ended_well c.args.worker.now c.lack.new.worker c.lack.result c.lack.ensures.ended) (λ p fails rest. let t = turn_in (sight (g.H.Here.reading c.args.here.now) (g.H.Here.ends c.args.here.now) c.args.time number) c.args.table.now p fails rest c.args.worker.now in ends_none t None (lacking_outcome t) (local_closed c.args.worker.now c.args.table.now (bar_local c.args.worker.now.token c.requires.bars) c.requires.owns)))
