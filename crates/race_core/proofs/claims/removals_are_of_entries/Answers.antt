-- What the proof of `claims::removals_are_of_entries` needs beside the tactics.
use Rattle.race_core.proofs.ClaimSources.{least_of_all, least_removal, removal_before, removal_counts}
use Rattle.race_core.proofs.claims.removals_are_of_entries.Goals as goal

pub returns-clause-only : goal.returns-clause-only
returns-clause-only c = removal_before

pub returns-clause-all : goal.returns-clause-all
returns-clause-all c = removal_counts

pub returns-clause-needed : goal.returns-clause-needed
returns-clause-needed c = least_removal

pub returns-clause-least : goal.returns-clause-least
returns-clause-least c = least_of_all
