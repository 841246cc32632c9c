-- What holds at each turn of the loops of `walk::Walk::follow`.
use Rattle.std.proofs.Common.{◌≤◌}
use Rattle.run_model.specs.Safety.{past_at}
use Rattle.report_tables.specs.Walk.{Knows}
use Rattle.report_tables.proofs.walk.Walk.follow.Given as goal

abbrev pub invariant-loop-place : goal.invariant-loop-place
invariant-loop-place l = Knows l.self l.run.repos (past_at l.run l.place) × (l.place ≤ l.upto)
