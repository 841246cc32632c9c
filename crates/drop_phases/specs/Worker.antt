-- What contracts see of a worker (own).
use Rattle.std.specs.Prelude.{ℕ, List, Option}
use Rattle.annex_base.specs.declared.kinds.Word.{Word}
use Rattle.run_data.specs.declared.job.Job.{Job}
use Rattle.drop_phases.specs.declared.phase.Heard.{Heard}
use Rattle.drop_phases.specs.declared.phase.Phase.{Phase}
use Rattle.drop_phases.specs.declared.phase.Token.{Token}

-- the drop of a job: its number and slot, the job, what the job's peer answered to VERSION, what it heard of each repository's
-- copy, the newest first, the word beside the target's answer to an order, where it stands, and what it has of the table
pub record Worker : Type 0 where
  pub number : ℕ
  pub slot : ℕ
  pub job : Job
  pub version : ℕ
  pub heard : List (ℕ × Heard)
  pub word : Option Word
  pub phase : Phase
  pub token : Token
