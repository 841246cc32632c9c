-- What the proof of `index::Newest::entry` needs beside the tactics.
use Rattle.std.proofs.Common.{ap, ◌∙◌}
use Rattle.std.specs.Option.{option_map}
use Rattle.std.specs.BTreeMap.{get}
use Rattle.log_lines.specs.Newest.{entry_at}
use Rattle.log_lines.specs.Index.{Index, statement_of}
use Rattle.log_lines.proofs.StatementLemmas.{topic_orders, statement_at}
use Rattle.log_lines.proofs.index.Newest.entry.Goals as goal

pub returns : goal.returns
returns c = c.get.ensures.value ∙ ap (λ R. get R c.self.inside.statements c.args.topic.now) topic_orders ∙ statement_at c.self.inside.statements.entries c.args.topic.now ∙ ap (λ (n : Index). option_map statement_of (entry_at n.entries c.args.topic.now)) c.self.view_is
