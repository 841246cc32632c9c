-- What the proof of `first::held_until` needs beside the tactics.
use Rattle.std.proofs.Common.{sym, ◌∙◌}
use Rattle.node_model.specs.Rows.{blocks}
use Rattle.drop_makes.specs.Holds.{until_by}
use Rattle.drop_makes.proofs.HoldLemmas.{until_reversed}
use Rattle.drop_makes.proofs.first.held_until.Goals as goal

pub returns : goal.returns
returns c =
    c.until_by.ensures ∙ (λ i. until_by (c.has_open.ensures i) (c.latest.ensures i)) ∙ sym (until_reversed (blocks c.args.key.now c.args.clock) c.args.holds.now)
