-- What the proof of `growth::histories_of_nodes_are_runs` needs beside the tactics.
use Rattle.growth_laws.proofs.MergedNodes.{nodes_merge}
use Rattle.growth_laws.proofs.RunsGrow.{block_begins, run_kept}
use Rattle.growth_laws.proofs.growth.histories_of_nodes_are_runs.Goals as goal

pub returns-clause-nodes : goal.returns-clause-nodes
returns-clause-nodes c = nodes_merge

pub returns-clause-block : goal.returns-clause-block
returns-clause-block c = block_begins

pub returns-clause-kept : goal.returns-clause-kept
returns-clause-kept c = run_kept
