-- The peers by the judgement.
use Rattle.local_drops.proofs.Owings.{asked_one, locked_lacks, locked_late}
use Rattle.local_drops.proofs.needs.judged.Goals as goal

pub returns-in-Asks-clause-does : goal.returns-in-Asks-clause-does
returns-in-Asks-clause-does g c =
    asked_one (g.H.Here.reading c.args.here.now) (g.H.Here.ends c.args.here.now) c.args.time c.args.worker.now c.judge.result c.in-Asks.peer c.in-Asks.is c.judge.ensures.needs c.single.result c.single.ensures

pub returns-in-Removes-clause-does : goal.returns-in-Removes-clause-does
returns-in-Removes-clause-does g c = λ number rows p fails rest. rw c.new.ensures.items (c.in-Removes.ensures.needs number rows p fails rest)

pub returns-in-Late-clause-does : goal.returns-in-Late-clause-does
returns-in-Late-clause-does g c =
    locked_late (g.H.Here.reading c.args.here.now) (g.H.Here.ends c.args.here.now) c.args.time c.args.worker.now c.judge.result _ _ c.in-Late.is c.judge.ensures.needs c.locked.result c.locked.ensures.does

pub returns-clause-does : goal.returns-clause-does
returns-clause-does g c =
    locked_lacks (g.H.Here.reading c.args.here.now) (g.H.Here.ends c.args.here.now) c.args.time c.args.worker.now c.judge.result c.in-Lacks.is c.judge.ensures.needs c.locked-in-Lacks.result c.locked-in-Lacks.ensures.does
