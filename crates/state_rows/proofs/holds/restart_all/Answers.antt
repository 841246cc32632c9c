-- What the proof of `holds::restart_all` needs beside the tactics.
use Rattle.std.proofs.Common.{arith}
use Rattle.std.proofs.lemmas.List.{get_or_default}
use Rattle.std.proofs.lemmas.List.Edits.{map_over_more}
use Rattle.node_model.specs.Rows.{restart}
use Rattle.state_rows.proofs.holds.restart_all.Goals as goal

pub loop-hold-preserved : goal.loop-hold-preserved
loop-hold-preserved c =
    rw c.restart.ensures (map_over_more (restart c.args.clock) c.deref_mut-hold-items.result.now c.loop-hold.hold-items c.loop-hold.hold-index _ c.loop-hold-test.true c.loop-hold.invariant (get_or_default c.loop-hold.hold-items c.loop-hold.hold-index _ _ (omega arith)))
