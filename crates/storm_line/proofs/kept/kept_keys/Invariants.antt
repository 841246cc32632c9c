-- What holds at each turn of the loops of `kept::kept_keys`.
use Rattle.std.proofs.Common.{◌≡◌, ◌≤◌}
use Rattle.kept_copies.specs.Scripts.{kept_of}
use Rattle.storm_line.proofs.FirstKeys.{first_keys}
use Rattle.storm_line.proofs.kept.kept_keys.Given as goal

abbrev pub invariant-loop-number : goal.invariant-loop-number
invariant-loop-number l = (l.kept ≡ kept_of l.run (first_keys l.number)) × (l.kept ≤ l.number)
