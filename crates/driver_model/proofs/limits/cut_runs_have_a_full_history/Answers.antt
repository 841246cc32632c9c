-- The entry before which a run is cut would be one too many.
use Rattle.driver_model.proofs.LimitedRuns.{cut_run}
use Rattle.driver_model.proofs.limits.cut_runs_have_a_full_history.Goals as goal

pub returns : goal.returns
returns c = cut_run
