-- What the proof of `line_set::add_lines` needs beside the tactics.
use Rattle.std.proofs.Common.{◌∙◌, []}
use Rattle.std.proofs.Common.{ap}
use Rattle.union_merge.specs.LineSet.{union}
use Rattle.union_merge.proofs.DifferenceLemmas.{union-joined}
use Rattle.union_merge.proofs.line_set.add_lines.Goals as goal

pub returns-else-len-le-FEW : goal.returns-else-len-le-FEW
returns-else-len-le-FEW c = c.put_in_order.ensures ∙ ap (union []) c.append.ensures ∙ union-joined c.args.lines.now.items c.args.new.items c.requires.order
