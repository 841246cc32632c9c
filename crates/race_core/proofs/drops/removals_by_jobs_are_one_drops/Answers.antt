-- What the proof of `drops::removals_by_jobs_are_one_drops` needs beside the tactics.
use Rattle.race_core.proofs.JobBegins.{remover}
use Rattle.race_core.proofs.OneDrop.{gone_once}
use Rattle.race_core.proofs.drops.removals_by_jobs_are_one_drops.Goals as goal

pub returns-clause-job : goal.returns-clause-job
returns-clause-job c = remover

pub returns-clause-once : goal.returns-clause-once
returns-clause-once c = gone_once c.sent_messages_are_read.ensures.read
