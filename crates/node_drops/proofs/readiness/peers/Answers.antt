-- The peers of a drop that has read this.
use Rattle.drop_worker.specs.Sides.{side_in}
use Rattle.node_drops.proofs.Sides.{own_as, target_as}
use Rattle.node_drops.proofs.readiness.peers.Goals as goal

pub sends_to-requires-clause-target : goal.sends_to-requires-clause-target
sends_to-requires-clause-target c = target_as c.args.place.now c.args.clock c.args.known.now (side_in c.args.worker.now) c.args.worker.now.job.peer c.requires.target

pub sends_to-requires-clause-own : goal.sends_to-requires-clause-own
sends_to-requires-clause-own c = λ later. own_as c.args.place.now c.args.clock c.args.known.now (side_in c.args.worker.now) c.args.worker.now (c.requires.own later)
