-- What the proof of `places::drop_each` needs beside the tactics.
use Rattle.std.proofs.Common.{arith}
use Rattle.std.proofs.lemmas.List.{get_or_default}
use Rattle.std.proofs.lemmas.List.Edits.{map_over_more}
use Rattle.link_ring.specs.Ends.{after_drop}
use Rattle.node_ends.proofs.places.drop_each.Goals as goal

pub loop-end-preserved : goal.loop-end-preserved
loop-end-preserved c =
    rw c.drop_old.ensures.end (map_over_more after_drop c.deref_mut-end-items.result.now c.loop-end.end-items c.loop-end.end-index _ c.loop-end-test.true c.loop-end.invariant (get_or_default c.loop-end.end-items c.loop-end.end-index _ _ (omega arith)))
