-- What the proof of `index::Newest::group` needs beside the tactics.
use Rattle.std.proofs.Common.{ap, ◌∙◌}
use Rattle.std.specs.Option.{option_map}
use Rattle.log_grammar.specs.declared.entry.Topic.TheVariants as topics
use Rattle.log_lines.specs.Newest.{entry_at}
use Rattle.log_lines.specs.Index.{Index, statement_of}
use Rattle.log_lines.proofs.StatementLemmas.{statement_at}
use Rattle.log_lines.proofs.index.Newest.group.Goals as goal

pub returns : goal.returns
returns c =
    let topic = topics.Group c.args.name.now in
    c.group_in.ensures ∙ statement_at c.self.inside.statements.entries topic ∙ ap (λ (n : Index). option_map statement_of (entry_at n.entries topic)) c.self.view_is
