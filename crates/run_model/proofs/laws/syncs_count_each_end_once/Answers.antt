-- What the proof of `laws::syncs_count_each_end_once` needs beside the tactics.
use Rattle.run_model.proofs.SyncCounts.{all_count}
use Rattle.run_model.proofs.laws.syncs_count_each_end_once.Goals as goal

pub returns : goal.returns
returns c = all_count
