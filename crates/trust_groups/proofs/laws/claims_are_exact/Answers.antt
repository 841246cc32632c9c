-- What the proof of `laws::claims_are_exact` needs beside the tactics.
use Rattle.trust_groups.proofs.ClaimLemmas.{claims_exact, claims_sorted}
use Rattle.trust_groups.proofs.laws.claims_are_exact.Goals as goal

pub returns-clause-each : goal.returns-clause-each
returns-clause-each c = claims_exact c.readings_are_exact.ensures.reading c.entries_are_found_by_topic.ensures

pub returns-clause-sorted : goal.returns-clause-sorted
returns-clause-sorted c = claims_sorted c.readings_are_exact.ensures.reading
