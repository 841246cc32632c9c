-- A driven run is a run, and so it is safe and has its causes.
use Rattle.driver_model.specs.Driving.{run_of}
use Rattle.driven_laws.proofs.laws.driven_runs_are_safe.Goals as goal

pub returns-clause-safe : goal.returns-clause-safe
returns-clause-safe c g lines repos all fits = c.runs_are_safe.ensures (run_of g lines) (c.driven_runs_are_runs.ensures.run g lines repos all fits)

pub returns-clause-causes : goal.returns-clause-causes
returns-clause-causes c g lines repos all fits = c.refusals_have_causes.ensures (run_of g lines) (c.driven_runs_are_runs.ensures.run g lines repos all fits)
