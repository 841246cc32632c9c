-- What the proof of `by_key::fill_place` needs beside the tactics.
use Rattle.std.proofs.Common.{Some, ap, sym}
use Rattle.std.specs.Prelude.{is_some}
use Rattle.object_store.proofs.ByKeyLemmas.{updated}
use Rattle.object_store.proofs.by_key.fill_place.Goals as goal

pub returns : goal.returns
returns c =
    updated c.args.contents.now.entries (c.get_mut.follows.lender c.args.content).entries c.args.key.now (Some c.args.content)
    ((c.get_mut.follows.holds c.args.content).3 (ap is_some (sym c.in-Some.ensures.value))).0
