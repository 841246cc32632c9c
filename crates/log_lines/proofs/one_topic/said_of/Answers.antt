-- What the proof of `one_topic::said_of` needs beside the tactics.
use Rattle.std.proofs.Common.{sym, ap, ◌∙◌}
use Rattle.log_lines.specs.Latest.{said_of}
use Rattle.log_lines.proofs.NewerLemmas.{said_when, said_other}
use Rattle.log_lines.proofs.StatementLemmas.{topic_eq_same}
use Rattle.log_lines.proofs.one_topic.said_of.Goals as goal

pub returns-then-eq : goal.returns-then-eq
returns-then-eq c =
    let entry = c.in_ok-entry.entry in
    let same = sym (topic_eq_same entry.topic c.args.topic.now) ∙ sym c.eq.ensures ∙ c.if-eq.true in
    sym (ap (said_of c.args.topic.now) c.in_ok-entry.was ∙ said_when c.args.topic.now entry same)

pub returns-else-eq : goal.returns-else-eq
returns-else-eq c =
    let entry = c.in_ok-entry.entry in
    let other = sym (topic_eq_same entry.topic c.args.topic.now) ∙ sym c.eq.ensures ∙ c.if-eq.false in
    sym (ap (said_of c.args.topic.now) c.in_ok-entry.was ∙ said_other c.args.topic.now entry other)
