-- What the proof of `growth::merged_histories_are_runs` needs beside the tactics.
use Rattle.growth_laws.proofs.MergedRuns.{in_order_is_run, merged_runs_are_runs}
use Rattle.growth_laws.proofs.growth.merged_histories_are_runs.Goals as goal

pub returns-clause-merged : goal.returns-clause-merged
returns-clause-merged c = merged_runs_are_runs

pub returns-clause-in_order : goal.returns-clause-in_order
returns-clause-in_order c = in_order_is_run
