-- What holds at each turn of the loops of `index::group_in`.
use Rattle.std.proofs.Common.{◌≡◌}
use Rattle.std.specs.Map.{lookup}
use Rattle.log_grammar.specs.declared.entry.Topic.TheVariants as topics
use Rattle.log_lines.specs.Newest.{same_topic}
use Rattle.log_lines.proofs.index.group_in.Given as goal

-- the group is found among the topics that are left, as among all
abbrev pub invariant-loop-topic : goal.invariant-loop-topic
invariant-loop-topic l = lookup (λ t. same_topic (topics.Group l.name) t) l.topic-iterator ≡ lookup (λ t. same_topic (topics.Group l.name) t) l.statements.entries
