-- What the proof of `knowing::Knowing::first_end` needs beside the tactics.
use Rattle.std.proofs.Common.{ap, ◌∙◌}
use Rattle.drop_proof.specs.Judging.{least_end}
use Rattle.drop_makes.proofs.knowing.Knowing.first_end.Goals as goal

pub returns : goal.returns
returns c = λ s st. c.least_end.ensures ∙ ap least_end (c.deref.ensures.value ∙ c.args.self.now.known)
