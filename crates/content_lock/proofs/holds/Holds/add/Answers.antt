-- What the proof of `holds::Holds::add` needs beside the tactics.
use Rattle.std.proofs.Common.{◌<◌}
use Rattle.std.specs.Map.{values_of}
use Rattle.annex_base.proofs.Lists.{All-from_Each}
use Rattle.run_data.specs.declared.row.Hold.{Hold}
use Rattle.content_lock.proofs.NumberedLemmas.{view_each}
use Rattle.content_lock.proofs.holds.Holds.add.Goals as goal

pub add-requires-clause-greater : goal.add-requires-clause-greater
add-requires-clause-greater c =
    let hs = values_of c.self.inside.by_number.entries in
    let P = λ (h : Hold). h.number < c.args.hold.number in
    All-from_Each P hs (view_each P hs c.args.self.now c.self.view_is c.requires)
