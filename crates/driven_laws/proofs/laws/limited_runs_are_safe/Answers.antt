-- The run up to the limit is a run, and so it is safe and has its causes.
use Rattle.driver_model.specs.Limits.{limited_run}
use Rattle.driven_laws.proofs.laws.limited_runs_are_safe.Goals as goal

pub returns-clause-safe : goal.returns-clause-safe
returns-clause-safe c g lines repos all fits = c.runs_are_safe.ensures (limited_run g lines).run (c.limited_runs_are_runs.ensures g lines repos all fits)

pub returns-clause-causes : goal.returns-clause-causes
returns-clause-causes c g lines repos all fits = c.refusals_have_causes.ensures (limited_run g lines).run (c.limited_runs_are_runs.ensures g lines repos all fits)
