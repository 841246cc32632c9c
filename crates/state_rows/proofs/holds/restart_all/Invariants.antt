-- What holds at each turn of the loops of `holds::restart_all`.
use Rattle.std.proofs.Common.{◌≡◌, ◌++◌, map, take, drop}
use Rattle.node_model.specs.Rows.{restart}
use Rattle.state_rows.proofs.holds.restart_all.Given as goal

abbrev pub invariant-loop-hold : goal.invariant-loop-hold
invariant-loop-hold l = l.hold-items ≡ map (restart l.clock) (take l.hold-index l.initial.hold-items) ++ drop l.hold-index l.initial.hold-items
