-- The state of a repository: all that a step reads. It knows no past and no run.
use Rattle.std.specs.Prelude.{ℕ, Bool, List, Option}
use Rattle.annex_base.specs.Settings.{Settings}
use Rattle.run_data.specs.declared.row.Hold.{Hold}
use Rattle.node_model.specs.Ends.{End, EndName}
use Rattle.node_model.specs.Sessions.{Session}
use Rattle.node_model.specs.Jobs.{Work}
use Rattle.node_model.specs.OwedLines.{OwedLine}

pub record State : Type 0 where
  pub clock : ℕ → ℕ  -- at a time, as it was set last
  pub wall : ℕ → ℕ  -- the wall clock, which makes stamps
  pub made : ℕ  -- how many entries it has made, and how many jobs it has begun
  pub begun : ℕ
  pub present : List ℕ → Bool  -- of a key: whether its content is there, the job whose bar stands, and its content's size
  pub bar : List ℕ → Option ℕ
  pub content : List ℕ → Option ℕ
  pub holds : List Hold
  pub ends : EndName → End
  pub sessions : EndName → Session
  pub works : List Work
  pub owed : List OwedLine
  pub lines : List ℕ → List (List ℕ)  -- those that the file of a path has
  pub logs : Settings  -- what the logs say, and what they said as the drop of a job read them
  pub read : ℕ → Settings
