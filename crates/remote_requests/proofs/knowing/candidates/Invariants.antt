-- The repositories that were passed.
use Rattle.std.proofs.Common.{◌≡◌, ◌≤◌, ◌<◌, ◌+◌, ◌∷◌, length}
use Rattle.std.specs.List.{range_with_len}
use Rattle.node_model.specs.Evidence.{but}
use Rattle.remote_requests.proofs.knowing.candidates.Given as goal

abbrev pub invariant-loop-c : goal.invariant-loop-c
invariant-loop-c g l = record {
  all : l.found.items ≡ l.repo ∷ but l.target (but l.repo (range_with_len 0 l.c));
  few : length l.found.items ≤ l.c + 1;
  passed : l.repo < l.c → length l.found.items ≤ l.c;
}
