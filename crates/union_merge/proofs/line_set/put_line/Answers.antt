-- What the proof of `line_set::put_line` needs beside the tactics.
use Rattle.std.proofs.Common.{sym, subst}
use Rattle.annex_base.specs.Lists.{Member}
use Rattle.union_merge.proofs.SetLemmas.{with_line-there}
use Rattle.union_merge.proofs.line_set.put_line.Goals as goal

pub returns-in_default-clause-items : goal.returns-in_default-clause-items
returns-in_default-clause-items c =
    sym (with_line-there c.args.line c.args.lines.now.items c.requires.order (subst (Member c.args.line) c.deref.ensures.value (subst (λ w. Member w c.deref.result.now) c.bytes.ensures c.in_default.ensures.found)))
