-- What holds at each turn of the loops of `look::small_number`.
use Rattle.std.proofs.Common.{◌≡◌, length}
use Rattle.std.specs.Str.Parse.{digits_value, digits_value_after}
use Rattle.step_effects.proofs.look.small_number.Given as goal

abbrev pub invariant-loop-digit : goal.invariant-loop-digit
invariant-loop-digit l = digits_value_after 10 l.value l.left ≡ digits_value 10 l.digits

abbrev pub decreases-loop-digit : goal.decreases-loop-digit
decreases-loop-digit l = length l.left
