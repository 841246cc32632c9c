-- What the proof of `laws::makers_tell` needs beside the tactics.
use Rattle.step_judging.proofs.ToldSteps.{told_is}
use Rattle.step_judging.proofs.laws.makers_tell.Goals as goal

pub returns : goal.returns
returns c = λ s st words e seated. told_is s st words e seated
