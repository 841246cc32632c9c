-- What holds at each turn of the loops of `holds::keep`.
use Rattle.std.proofs.Common.{◌≡◌, ◌++◌, map, take, drop}
use Rattle.node_model.specs.Rows.{keep_of}
use Rattle.state_rows.proofs.holds.keep.Given as goal

abbrev pub invariant-loop-hold : goal.invariant-loop-hold
invariant-loop-hold l = l.hold-items ≡ map (keep_of l.owner) (take l.hold-index l.initial.hold-items) ++ drop l.hold-index l.initial.hold-items
