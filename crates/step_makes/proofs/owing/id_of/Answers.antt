-- What the proof of `owing::id_of` needs beside the tactics.
use Rattle.std.proofs.Common.{}
use Rattle.step_makes.proofs.OwingLemmas.{id_at}
use Rattle.step_makes.proofs.owing.id_of.Goals as goal

pub returns : goal.returns
returns c = id_at c.args.repos.now c.args.number c.index-repos-number.result c.requires
