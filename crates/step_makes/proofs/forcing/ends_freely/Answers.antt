-- What the proof of `forcing::ends_freely` needs beside the tactics.
use Rattle.std.proofs.Common.{}
use Rattle.job_makes.specs.Turns.{turn_in}
use Rattle.state_jobs.specs.Phases.{phase_of}
use Rattle.node_model.specs.Turns.{outcome_of}
use Rattle.step_makes.proofs.forcing.ends_freely.Goals as goal

pub returns : goal.returns
returns c = λ s st.
    let x = c.args.turn.now in
    let t = turn_in x s st in
    c.ends_freely.ensures s st (outcome_of t (phase_of x.work.now.phase)) (c.loses.ensures t)
