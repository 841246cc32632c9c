-- Those in the slots before this one are noted.
use Rattle.std.proofs.Common.{◌≡◌, ◌≤◌, ◌+◌, ◌++◌, vec_len}
use Rattle.std.specs.Prelude.{flat_map, vec_capacity}
use Rattle.std.specs.List.{range_with_len}
use Rattle.node_steps.specs.Crashing.{ended_in}
use Rattle.node_steps.proofs.crashing.note_all_ended.Given as goal

abbrev pub invariant-loop-slot : goal.invariant-loop-slot
invariant-loop-slot l = record {
  noted : l.outcomes.items ≡ l.fn.outcomes.items ++ flat_map (ended_in l.parts.jobs.running l.place) (range_with_len 0 l.slot);
  len : vec_len l.outcomes ≤ vec_len l.fn.outcomes + l.slot;
  capacity : vec_capacity l.outcomes ≡ vec_capacity l.fn.outcomes;
}
