-- What the proof of `laws::others_change_nothing` needs beside the tactics.
use Rattle.run_model.proofs.Others.{other_is}
use Rattle.run_model.proofs.laws.others_change_nothing.Goals as goal

pub returns : goal.returns
returns c = other_is
