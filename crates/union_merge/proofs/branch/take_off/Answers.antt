-- What the proof of `branch::take_off` needs beside the tactics.
use Rattle.std.proofs.Common.{ap, ◌∙◌}
use Rattle.union_merge.specs.FileView.{files_of}
use Rattle.union_merge.proofs.UndoneLemmas.{files_of-remove_entry}
use Rattle.union_merge.proofs.branch.take_off.Goals as goal

pub returns : goal.returns
returns c = ap files_of c.remove.ensures.entries ∙ files_of-remove_entry c.args.files.now.entries c.args.path.now
