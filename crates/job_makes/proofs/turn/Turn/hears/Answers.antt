-- What the proof of `turn::Turn::hears` needs beside the tactics.
use Rattle.node_model.specs.JobStep.{talk}
use Rattle.job_makes.specs.Turns.{turn_in}
use Rattle.job_makes.proofs.turn.Turn.hears.Goals as goal

pub returns : goal.returns
returns c = λ s st. c.quietly.ensures (talk (turn_in c.args.self.now s st)) (c.talks.ensures s st)
