-- What the proof of `index::put` needs beside the tactics.
use Rattle.std.proofs.Common.{sym, ap, ◌∙◌}
use Rattle.std.specs.BTreeMap.{insert_entry}
use Rattle.log_lines.specs.declared.statement.Statement.{Statement}
use Rattle.log_lines.specs.Index.{entries_in}
use Rattle.log_lines.proofs.StatementLemmas.{topic_orders, put_news, put_known}
use Rattle.log_lines.proofs.index.put.Goals as goal

pub returns-in_ok-insert : goal.returns-in_ok-insert
returns-in_ok-insert c =
    let entry = c.args.entry in
    let statement : Statement = record { stamp = entry.stamp; value = entry.value } in
    let known = c.args.statements.now.entries in
    record {
      ok = ap entries_in (c.in_ok-insert.ensures.entries ∙ ap (λ R. insert_entry R known entry.topic statement) topic_orders)
          ∙ put_news known entry.topic statement (sym c.is_news.ensures ∙ c.if-is_news.true);
      err = tt;
    }

pub returns-else-is_news : goal.returns-else-is_news
returns-else-is_news c =
    let entry = c.args.entry in
    record {
      ok = put_known c.args.statements.now.entries entry.topic (record { stamp = entry.stamp; value = entry.value }) c.requires (sym c.is_news.ensures ∙ c.if-is_news.false);
      err = tt;
    }
