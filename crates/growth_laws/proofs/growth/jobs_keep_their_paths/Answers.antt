-- What the proof of `growth::jobs_keep_their_paths` needs beside the tactics.
use Rattle.growth_laws.proofs.RunsGrow.{paths_before}
use Rattle.growth_laws.proofs.RunStarts.{paths_kept}
use Rattle.growth_laws.proofs.growth.jobs_keep_their_paths.Goals as goal

pub returns-clause-entries : goal.returns-clause-entries
returns-clause-entries c = paths_kept

pub returns-clause-tree : goal.returns-clause-tree
returns-clause-tree c = paths_before
