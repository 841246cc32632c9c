-- What holds at each turn of the loops of `crashes::put_slots`.
use Rattle.std.proofs.Common.{◌≡◌, ◌++◌, reverse}
use Rattle.std.specs.List.{flat_map, range_with_len}
use Rattle.crashed_jobs.specs.Crashed.{in_slot}
use Rattle.shown_text.specs.Lines.{crashed_line}
use Rattle.shown_text.proofs.crashes.put_slots.Given as goal

abbrev pub invariant-loop-slot : goal.invariant-loop-slot
invariant-loop-slot l =
    l.out.items ≡ l.fn.out.items ++ flat_map (λ slot. crashed_line l.repos (reverse l.before) l.repo (in_slot l.running slot)) (range_with_len 0 l.slot)
