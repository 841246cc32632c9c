-- What holds at each turn of the loops of `end::take_first`.
use Rattle.std.proofs.Common.{◌≡◌, not, vec_capacity, vec_len}
use Rattle.std.specs.List.{find, after_first}
use Rattle.link_ring.specs.Frames.{is_old}
use Rattle.link_ring.proofs.end.take_first.Given as goal

-- what is left gives the same frame, and leaves the same ones
abbrev pub invariant-loop-phase : goal.invariant-loop-phase
invariant-loop-phase l = record {
  frame : find (λ f. not (is_old l.epoch l.phase f)) l.fn.frames.items ≡ find (λ f. not (is_old l.epoch l.phase f)) l.frames.items;
  rest : after_first (λ f. not (is_old l.epoch l.phase f)) l.fn.frames.items ≡ after_first (λ f. not (is_old l.epoch l.phase f)) l.frames.items;
  room : vec_capacity l.frames ≡ vec_capacity l.fn.frames;
}

abbrev pub decreases-loop-phase : goal.decreases-loop-phase
decreases-loop-phase l = vec_len l.frames
