-- What holds at each turn of the loops of `stamp::put_digits`.
use Rattle.std.proofs.Common.{◌≡◌, ◌≤◌, ◌<◌, ◌^◌, ◌++◌}
use Rattle.annex_base.specs.StampText.{digits_after_point}
use Rattle.annex_base.proofs.stamp.put_digits.Given as goal

-- what is written and what is left to write are all of the digits
abbrev pub invariant-loop-rest : goal.invariant-loop-rest
invariant-loop-rest l = record {
  within : l.places ≤ 9;
  below : l.rest < 10 ^ l.places;
  written : l.out.items ++ digits_after_point l.places l.rest ≡ l.fn.out.items ++ digits_after_point 9 l.nanos;
}

abbrev pub decreases-loop-rest : goal.decreases-loop-rest
decreases-loop-rest l = l.places
