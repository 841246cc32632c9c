-- What the proof of `index::is_old` needs beside the tactics.
use Rattle.std.proofs.Common.{ap, ◌∙◌}
use Rattle.std.specs.BTreeMap.{get}
use Rattle.log_lines.specs.Latest.{is_old}
use Rattle.log_lines.proofs.StatementLemmas.{topic_orders}
use Rattle.log_lines.proofs.index.is_old.Goals as goal

pub returns-in-Some : goal.returns-in-Some
returns-in-Some c = c.is_older.ensures ∙ ap (is_old c.args.statement.now) (c.in-Some.ensures.value ∙ ap (λ R. get R c.args.statements.now c.args.topic.now) topic_orders)
