-- What the proof of `knowing::Knowing::enough` needs beside the tactics.
use Rattle.std.proofs.Common.{◌∙◌}
use Rattle.drop_proof.specs.Judging.{is_enough}
use Rattle.drop_makes.proofs.knowing.Knowing.enough.Goals as goal

pub returns : goal.returns
returns c = λ s st. c.is_enough.ensures ∙ (λ i. is_enough (c.side.ensures i) (c.need.ensures i) ((c.deref.ensures.value ∙ c.args.self.now.known) i))
