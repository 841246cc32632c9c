-- What holds at each turn of the loop of `places::drop_each`.
use Rattle.std.proofs.Common.{◌≡◌, ◌++◌, take, drop}
use Rattle.std.specs.Prelude.{map}
use Rattle.link_ring.specs.Ends.{after_drop}
use Rattle.node_ends.proofs.places.drop_each.Given as goal

abbrev pub invariant-loop-end : goal.invariant-loop-end
invariant-loop-end l = l.end-items ≡ map after_drop (take l.end-index l.initial.end-items) ++ drop l.end-index l.initial.end-items
