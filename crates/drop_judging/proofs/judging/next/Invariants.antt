-- What holds at each turn of the loops of `judging::next`.
use Rattle.std.proofs.Common.{◌≡◌, drop}
use Rattle.std.specs.Prelude.{find}
use Rattle.drop_judging.specs.Judging.{asks_of}
use Rattle.drop_judging.proofs.judging.next.Given as goal

-- the first is among the rest
abbrev pub invariant-loop-c : goal.invariant-loop-c
invariant-loop-c g l =
    find (asks_of (g.H.Here.reading l.here) l.worker) l.candidates ≡ find (asks_of (g.H.Here.reading l.here) l.worker) (drop l.c-index l.candidates)
