-- The end of all jobs; for private contracts (own).
use Rattle.std.specs.Prelude.{◌≢◌, ℕ, List}
use Rattle.annex_base.specs.Lists.{Each}
use Rattle.content_lock.specs.Rows.{Rows}
use Rattle.drop_phases.specs.declared.phase.Token.{Token}
use Rattle.drop_phases.specs.Doing.{HasToken}
use Rattle.node_tasks.specs.declared.task.Task.{Task}
use Rattle.node_tasks.specs.Tasks.{OwnsOf, number_of}
use Rattle.running_jobs.specs.Running.{AllApart}

-- each job has what is its of the table
pub record CanEnd (rows : Rows) (ts : List Task) : Type 0 where
  pub owns : Each (OwnsOf rows) ts
  pub apart : AllApart ts

-- what other jobs than these have, they still have
abbrev pub OthersKeep : List Task → Rows → Rows → Type 0
OthersKeep ts rows rows' = (job : ℕ) (key : List ℕ) (token : Token) → Each (λ t. job ≢ number_of t) ts → HasToken job key token rows → HasToken job key token rows'
