-- The one entry that a turn of a repository makes (own).
use Rattle.std.specs.Prelude.{Option}
use Rattle.std.specs.Option.{option_or}
use Rattle.node_model.specs.Look.{Look, Effect}
use Rattle.node_model.specs.SetUp.{SetUp}
use Rattle.node_model.specs.State.{State}
use Rattle.node_model.specs.OwedStep.{owed_step}
use Rattle.node_model.specs.SessionStep.{session_step}
use Rattle.node_model.specs.Turns.{job_step}

-- a line that is owed, or else a step of a session, or else of a job; none where no step is ready
abbrev pub step : SetUp → State → Look → Option Effect
step s st k = option_or (owed_step s st k) (option_or (session_step s st k) (job_step s st k))
