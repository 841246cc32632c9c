-- What the proof of `evidence::evidence_is_of_other_repositories` needs beside the tactics.
use Rattle.race_core.proofs.Numbers.{items_distinct, never_the_target, of_the_run}
use Rattle.race_core.proofs.evidence.evidence_is_of_other_repositories.Goals as goal

pub returns-clause-distinct : goal.returns-clause-distinct
returns-clause-distinct c = items_distinct c.sent_messages_are_read.ensures.read

pub returns-clause-other : goal.returns-clause-other
returns-clause-other c = never_the_target c.sent_messages_are_read.ensures.read

pub returns-clause-known : goal.returns-clause-known
returns-clause-known c = of_the_run c.sent_messages_are_read.ensures.read
