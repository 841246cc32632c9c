-- What the proof of `parts::strip` needs beside the tactics.
use Rattle.branch_bundle.proofs.PartLemmas.{stripped}
use Rattle.branch_bundle.proofs.parts.strip.Goals as goal

pub returns : goal.returns
returns c = stripped c.args.text.now c.args.prefix.now c.strip_prefix.result c.strip_prefix.ensures.cases
