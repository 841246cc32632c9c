-- What the proof of `knowing::Knowing::held_until` needs beside the tactics.
use Rattle.std.proofs.Common.{filter, ◌∙◌}
use Rattle.node_model.specs.DropStep.{until}
use Rattle.node_model.specs.Rows.{blocks}
use Rattle.drop_makes.proofs.knowing.Knowing.held_until.Goals as goal

pub returns : goal.returns
returns c = λ s st. c.held_until.ensures ∙ (λ i. until (filter (blocks (c.key.ensures s st i) (c.clock.ensures s st i)) (c.holds.ensures i)))
