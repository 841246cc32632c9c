-- What the proof of `laws::order_is_total` needs beside the tactics.
use Rattle.log_lines.proofs.OrderLemmas.{topic_total, topic_exact, entry_total, entry_exact}
use Rattle.log_lines.proofs.laws.order_is_total.Goals as goal

pub returns-clause-topics : goal.returns-clause-topics
returns-clause-topics c = topic_total

pub returns-clause-same_topics : goal.returns-clause-same_topics
returns-clause-same_topics c = topic_exact

pub returns-clause-entries : goal.returns-clause-entries
returns-clause-entries c = entry_total

pub returns-clause-same_entries : goal.returns-clause-same_entries
returns-clause-same_entries c = entry_exact
