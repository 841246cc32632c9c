-- What the proof of `index::is_outdated` needs beside the tactics.
use Rattle.std.proofs.Common.{sym, ap, ◌∙◌}
use Rattle.log_lines.specs.declared.statement.Statement.{Statement}
use Rattle.log_lines.specs.Index.{entries_in}
use Rattle.log_lines.specs.Latest.{is_outdated_in}
use Rattle.log_grammar.specs.Reading.{entry_of}
use Rattle.log_lines.proofs.StatementLemmas.{old_at}
use Rattle.log_lines.proofs.index.is_outdated.Goals as goal

pub returns-in-Some : goal.returns-in-Some
returns-in-Some c =
    let entry = c.in-Some.entry in
    let statement : Statement = record { stamp = entry.stamp; value = entry.value } in
    c.is_old.ensures ∙ old_at c.args.statements.now.entries entry.topic statement ∙ ap (is_outdated_in (entries_in c.args.statements.now.entries)) (sym c.in-Some.is ∙ c.in_ok-read_line.ensures.exact ∙ ap (entry_of c.args.kind) c.bytes.ensures)
