-- Those among the candidates that were passed.
use Rattle.std.proofs.Common.{◌≡◌, ◌++◌, drop, filter}
use Rattle.drop_judging.specs.Judging.{is_owing}
use Rattle.drop_judging.proofs.owing.owing.Given as goal

abbrev pub invariant-loop-peer : goal.invariant-loop-peer
invariant-loop-peer g l =
    filter (is_owing (g.H.Here.ends l.here) l.worker) l.candidates ≡ l.peers.items ++ filter (is_owing (g.H.Here.ends l.here) l.worker) (drop l.peer-index l.candidates)
