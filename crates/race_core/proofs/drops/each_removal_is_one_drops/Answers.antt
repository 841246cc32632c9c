-- What the proof of `drops::each_removal_is_one_drops` needs beside the tactics.
use Rattle.race_core.proofs.AtPlaces.{one_drop}
use Rattle.race_core.proofs.OneDrop.{by_drop, of_repository}
use Rattle.race_core.proofs.drops.each_removal_is_one_drops.Goals as goal

pub returns-clause-repository : goal.returns-clause-repository
returns-clause-repository c = of_repository c.sent_messages_are_read.ensures.read

pub returns-clause-dropped_by : goal.returns-clause-dropped_by
returns-clause-dropped_by c = by_drop c.sent_messages_are_read.ensures.read

pub returns-clause-enough : goal.returns-clause-enough
returns-clause-enough c = one_drop c.sent_messages_are_read.ensures.read
