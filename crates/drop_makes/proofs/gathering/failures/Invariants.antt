-- What holds at each turn of the loop of `gathering::failures`.
use Rattle.std.proofs.Common.{◌≡◌, ◌++◌, drop}
use Rattle.node_model.specs.Evidence.{failures}
use Rattle.node_model.specs.Knows.{knows_by}
use Rattle.state_jobs.specs.Works.{work_of}
use Rattle.drop_makes.specs.Knowings.{cause_in, reading_in}
use Rattle.drop_makes.proofs.gathering.failures.Given as goal

-- those of the candidates that are left come behind those so far
abbrev pub invariant-loop-c : goal.invariant-loop-c
invariant-loop-c l =
    let offers = knows_by (reading_in l.turn l.logs) (work_of l.turn.work.now) in
    failures offers (cause_in l.turn l.logs) l.candidates ≡ l.causes.items ++ failures offers (cause_in l.turn l.logs) (drop l.c-index l.candidates)
