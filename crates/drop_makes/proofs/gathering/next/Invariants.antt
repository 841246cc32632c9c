-- What holds at each turn of the loop of `gathering::next`.
use Rattle.std.proofs.Common.{◌≡◌, drop}
use Rattle.std.specs.Prelude.{find}
use Rattle.node_model.specs.Knows.{asks_by}
use Rattle.state_jobs.specs.Works.{work_of}
use Rattle.drop_makes.specs.Knowings.{reading_in}
use Rattle.drop_makes.proofs.gathering.next.Given as goal

-- the first is among the rest
abbrev pub invariant-loop-c : goal.invariant-loop-c
invariant-loop-c l =
    find (asks_by (reading_in l.turn l.logs) (work_of l.turn.work.now)) l.candidates ≡ find (asks_by (reading_in l.turn l.logs) (work_of l.turn.work.now)) (drop l.c-index l.candidates)
