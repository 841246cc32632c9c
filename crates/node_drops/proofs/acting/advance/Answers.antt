-- The step of a drop that has read this.
use Rattle.drop_worker.specs.Sides.{side_in}
use Rattle.node_drops.proofs.Sides.{own_as, steps_so, target_as}
use Rattle.node_drops.proofs.acting.advance.Goals as goal

pub step-requires-clause-target : goal.step-requires-clause-target
step-requires-clause-target g c = target_as c.args.place.now c.args.clock c.args.known.now (side_in c.args.worker.now) c.args.worker.now.job.peer c.requires.target

pub step-requires-clause-own : goal.step-requires-clause-own
step-requires-clause-own g c = λ later. own_as c.args.place.now c.args.clock c.args.known.now (side_in c.args.worker.now) c.args.worker.now (c.requires.own later)

pub returns-clause-steps : goal.returns-clause-steps
returns-clause-steps g c =
    steps_so c.args.place.now c.args.clock c.args.known.now (g.K.Keeper.contents c.args.keeper.now) (g.K.Keeper.contents c.step.new.keeper) c.args.input.now c.args.table.now c.step.new.table c.args.worker.now c.step.new.worker c.step.result
    c.step.ensures.word c.step.ensures.answer c.step.ensures.heard c.step.ensures.after c.step.ensures.contents c.step.ensures.fits c.step.ensures.begun c.step.ensures.own c.step.ensures.apart c.step.ensures.job

pub returns-clause-local : goal.returns-clause-local
returns-clause-local g c = λ local. (c.step.ensures.holds local, c.step.ensures.records local)
