-- What holds at each turn of the loop of `found::blocking`.
use Rattle.std.proofs.Common.{◌≡◌, take}
use Rattle.state_checks.specs.Rows.{blocking}
use Rattle.state_checks.proofs.found.blocking.Given as goal

abbrev pub invariant-loop-hold : goal.invariant-loop-hold
invariant-loop-hold l = l.views ≡ blocking (take l.hold-index l.holds) l.key l.clock
