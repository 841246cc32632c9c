-- What holds at each turn of the loops of `holds::blockers`.
use Rattle.std.proofs.Common.{◌≡◌, take}
use Rattle.report_tables.specs.Before.{blockers}
use Rattle.report_tables.proofs.holds.blockers.Given as goal

abbrev pub invariant-loop-hold : goal.invariant-loop-hold
invariant-loop-hold l = l.views.items ≡ blockers l.key l.clock (take l.hold-index l.holds)
