-- What holds at each turn of the loops of `causes::rise_from`.
use Rattle.std.proofs.Common.{◌≡◌, length, map}
use Rattle.journal_reading.specs.Fields.{rises_from}
use Rattle.journal_reading.specs.Kinds.{rank}
use Rattle.journal_jobs.proofs.causes.rise_from.Given as goal

abbrev pub invariant-loop-item : goal.invariant-loop-item
invariant-loop-item g l =
    let ranks = map (λ x. rank l.own (g.X.OfRepo.repo_of x)) in
    rises_from l.first (ranks l.items) ≡ rises_from l.last (ranks l.left)

abbrev pub decreases-loop-item : goal.decreases-loop-item
decreases-loop-item g l = length l.left
