-- What holds at each turn of the loop of `gathering::gather`.
use Rattle.std.proofs.Common.{◌≡◌, [], drop}
use Rattle.node_model.specs.Evidence.{gather, reached_candidates}
use Rattle.node_model.specs.Knows.{asks_by, knows_by}
use Rattle.state_jobs.specs.Works.{work_of}
use Rattle.drop_makes.specs.Knowings.{reading_in}
use Rattle.drop_makes.proofs.gathering.gather.Given as goal

-- the rest goes on from the items so far
abbrev pub invariant-loop-c : goal.invariant-loop-c
invariant-loop-c l =
    let r = reading_in l.turn l.logs in
    let w = work_of l.turn.work.now in
    gather l.side l.logs.need (knows_by r w) (reached_candidates (asks_by r w) l.candidates) []
    ≡ gather l.side l.logs.need (knows_by r w) (reached_candidates (asks_by r w) (drop l.c-index l.candidates)) l.items.items
