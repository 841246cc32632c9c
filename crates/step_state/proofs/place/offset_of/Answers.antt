-- What the proof of `place::offset_of` needs beside the tactics.
use Rattle.step_state.proofs.PlaceLemmas.{offset_at}
use Rattle.step_state.proofs.place.offset_of.Goals as goal

pub returns : goal.returns
returns c = offset_at c.args.repos.now c.args.number c.index-repos-number.result c.requires
