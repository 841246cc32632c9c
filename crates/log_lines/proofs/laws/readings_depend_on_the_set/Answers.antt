-- What the proof of `laws::readings_depend_on_the_set` needs beside the tactics.
use Rattle.log_lines.proofs.NewestLemmas.{alike_by_members}
use Rattle.log_lines.proofs.laws.readings_depend_on_the_set.Goals as goal

pub returns : goal.returns
returns c = alike_by_members
