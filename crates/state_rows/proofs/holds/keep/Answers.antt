-- What the proof of `holds::keep` needs beside the tactics.
use Rattle.std.proofs.Common.{arith}
use Rattle.std.proofs.lemmas.List.{get_or_default}
use Rattle.std.proofs.lemmas.List.Edits.{map_over_more}
use Rattle.node_model.specs.Rows.{keep_of}
use Rattle.state_rows.proofs.holds.keep.Goals as goal

pub loop-hold-preserved : goal.loop-hold-preserved
loop-hold-preserved c =
    rw c.keep_if.ensures (map_over_more (keep_of c.args.owner) c.deref_mut-hold-items.result.now c.loop-hold.hold-items c.loop-hold.hold-index _ c.loop-hold-test.true c.loop-hold.invariant (get_or_default c.loop-hold.hold-items c.loop-hold.hold-index _ _ (omega arith)))
