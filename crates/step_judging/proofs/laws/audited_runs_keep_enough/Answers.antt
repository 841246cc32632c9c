-- What the proof of `laws::audited_runs_keep_enough` needs beside the tactics.
use Rattle.step_judging.proofs.AuditedRuns.{least_enough}
use Rattle.step_judging.proofs.laws.audited_runs_keep_enough.Goals as goal

pub returns : goal.returns
returns c = λ run key n m is least need. least_enough run (c.runs_are_safe.ensures run is) key n m least need
