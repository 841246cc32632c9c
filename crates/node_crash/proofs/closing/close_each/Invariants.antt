-- The ends with the repositories before this one.
use Rattle.std.proofs.Common.{◌≡◌, ◌≤◌, ◌+◌, ◌*◌, vec_len}
use Rattle.std.specs.Prelude.{vec_capacity}
use Rattle.node_crash.specs.Closing.{SendsCloses, all_names}
use Rattle.node_crash.proofs.closing.close_each.Given as goal

abbrev pub invariant-loop-peer : goal.invariant-loop-peer
invariant-loop-peer l = record {
  closes : SendsCloses (all_names l.own l.peer) l.stamp l.fn.ends l.ends l.fn.sent.items l.sent.items;
  len : vec_len l.sent ≤ vec_len l.fn.sent + l.peer * 8;
  capacity : vec_capacity l.sent ≡ vec_capacity l.fn.sent;
}
