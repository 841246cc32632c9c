-- The candidates that gave nothing among those that were passed.
use Rattle.std.proofs.Common.{◌≡◌, ◌++◌, drop}
use Rattle.node_model.specs.Evidence.{failures}
use Rattle.drop_judging.specs.Judging.{cause_at, offer_of}
use Rattle.drop_judging.proofs.evidence.failures.Given as goal

abbrev pub invariant-loop-c : goal.invariant-loop-c
invariant-loop-c g l =
    failures (offer_of (g.H.Here.reading l.here) l.worker) (cause_at (g.H.Here.reading l.here) l.worker) l.candidates
    ≡ l.causes.items ++ failures (offer_of (g.H.Here.reading l.here) l.worker) (cause_at (g.H.Here.reading l.here) l.worker) (drop l.c-index l.candidates)
