-- The evidence of the candidates that were passed.
use Rattle.std.proofs.Common.{◌≡◌, ◌≤◌, [], drop, length}
use Rattle.drop_judging.specs.Judging.{evidence_of}
use Rattle.drop_judging.proofs.judging.gather.Given as goal

-- the rest goes on from the items so far
abbrev pub invariant-loop-c : goal.invariant-loop-c
invariant-loop-c g l = record {
  rest : evidence_of l.side (g.H.Here.reading l.here) l.worker l.candidates [] ≡ evidence_of l.side (g.H.Here.reading l.here) l.worker (drop l.c-index l.candidates) l.items.items;
  few : length l.items.items ≤ l.c-index;
}
