-- What holds at each turn of the loop of `closing::closes_each`.
use Rattle.std.proofs.Common.{◌≡◌, ◌-◌}
use Rattle.std.specs.Prelude.{flat_map}
use Rattle.std.specs.List.{range_with_len}
use Rattle.node_model.specs.Evidence.{but}
use Rattle.step_judging.specs.Same.{same_frames}
use Rattle.any_time_checks.specs.Coming.{closes_with}
use Rattle.any_time_checks.proofs.closing.closes_each.Given as goal

abbrev pub invariant-loop-peer : goal.invariant-loop-peer
invariant-loop-peer l =
    same_frames (flat_map (closes_with l.ends) (but l.number (range_with_len l.peer (l.count - l.peer)))) l.rest
    ≡ same_frames (flat_map (closes_with l.ends) (but l.number (range_with_len 0 l.count))) l.sent
