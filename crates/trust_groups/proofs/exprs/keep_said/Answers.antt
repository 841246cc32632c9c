-- What the proof of `exprs::keep_said` needs beside the tactics.
use Rattle.std.proofs.Common.{Option, OnOk, ap, subst, ◌∙◌}
use Rattle.log_lines.specs.declared.entry.Entry.{Entry}
use Rattle.log_lines.specs.Reading.{entry_of}
use Rattle.trust_groups.specs.Exprs.{HaveExprs, texts_said}
use Rattle.trust_groups.proofs.exprs.keep_said.Goals as goal

pub returns-clause-have : goal.returns-clause-have
returns-clause-have c =
    subst (λ (o : Option Entry). OnOk c.keep_entry.result (HaveExprs c.keep_entry.new.exprs (texts_said o))) (c.in_ok-entry.ensures.exact ∙ ap (entry_of c.args.kind) c.bytes.ensures) c.keep_entry.ensures.have
