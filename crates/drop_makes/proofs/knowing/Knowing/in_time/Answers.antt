-- What the proof of `knowing::Knowing::in_time` needs beside the tactics.
use Rattle.std.proofs.Common.{◌∙◌}
use Rattle.node_model.specs.DropStep.{in_time}
use Rattle.drop_makes.proofs.knowing.Knowing.in_time.Goals as goal

pub returns : goal.returns
returns c = λ s st. c.is_in_time.ensures ∙ (λ i. in_time (c.clock.ensures s st i) (c.first_end.ensures s st i))
