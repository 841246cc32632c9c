-- What the proof of `lines::same_lines` needs beside the tactics.
use Rattle.std.proofs.Common.{◌∙◌}
use Rattle.branch_lines.proofs.LineLemmas.{same_lines_is}
use Rattle.branch_lines.proofs.lines.same_lines.Goals as goal

pub returns : goal.returns
returns c = c.eq.ensures ∙ same_lines_is c.args.lines.now c.args.others.now
