-- What the proof of `write::try_write_line` needs beside the tactics.
use Rattle.std.proofs.Common.{sym, ◌∙◌, true≢false, subst}
use Rattle.log_grammar.specs.LineText.{IsLine}
use Rattle.log_grammar.proofs.WriteLemmas.{line_again}
use Rattle.log_grammar.proofs.write.try_write_line.Goals as goal

pub returns-clause-only : goal.returns-clause-only
returns-clause-only c = λ has short.
    let text = c.as_slice-line.ensures.value ∙ c.in_ok-bytes.ensures in
    let is = subst (λ l. IsLine c.args.kind l c.args.entry.now) (sym text) (line_again c.args.kind c.args.entry.now has short) in
    absurd (true≢false (sym (c.in_ok-reads_as.ensures.1 is) ∙ c.if-branch.false))
