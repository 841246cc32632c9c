-- What `sync REPO` does (own).
use Rattle.std.specs.Prelude.{ℕ, Bool, true, false, not, ◌==◌, List, [], ◌∷◌, filter, length, map, Some, None}
use Rattle.run_data.specs.declared.job.Job.{Job}
use Rattle.run_data.specs.declared.job.JobKind.TheVariants as jobs
use Rattle.run_model.specs.Logs.{settings_of}
use Rattle.run_model.specs.Run.{tree_at}
use Rattle.wanted_rules.specs.declared.action.Action.{Action}
use Rattle.wanted_rules.specs.declared.action.Action.TheVariants.{Get, Put, DropHere, DropFrom}
use Rattle.wanted_rules.specs.Plan.{plan}
use Rattle.driver_model.specs.Driver.{Driver, DriverInput}
use Rattle.driver_model.specs.ScriptSteps.{begins, merges}
use Rattle.driver_model.specs.Rounds.{numbers, settles}

-- ---- logs

-- the repositories but r, in order of number
abbrev pub numbers_but : DriverInput → ℕ → List ℕ
numbers_but g r = filter (λ n. not (n == r)) (numbers g)

-- r merges the branch of each of these
abbrev pub merges_each : ℕ → List ℕ → Driver → Driver
merges_each r [] d = d
merges_each r (other ∷ others) d = merges_each r others (merges r other d)

-- each of these merges the branch of r
abbrev pub each_merges : ℕ → List ℕ → Driver → Driver
each_merges r [] d = d
each_merges r (other ∷ others) d = each_merges r others (merges other r d)

-- The driver settles. Then r merges the branch of each other repository, and after that each of these merges the branch of r.
abbrev pub shares_logs : DriverInput → ℕ → Driver → Driver
shares_logs g r d = each_merges r (numbers_but g r) (merges_each r (numbers_but g r) (settles g d))

-- ---- plans

-- the plan of r: what its log files say, and which keys the tree has at which paths, decide it
abbrev pub plan_at : DriverInput → ℕ → Driver → List Action
plan_at g r d = plan (settings_of d.past r) (tree_at d.tree (length d.past)) r (map (λ repo. repo.id) g.repos)

-- an action as a job of the repository whose plan it is of; it names its key by the key's text
abbrev pub job_for : Action → Job
job_for (Get key) = record { kind = jobs.Get; key = key; path = None; peer = None }
job_for (Put key peer) = record { kind = jobs.Copy; key = key; path = None; peer = Some peer }
job_for (DropHere key) = record { kind = jobs.Drop; key = key; path = None; peer = None }
job_for (DropFrom key peer) = record { kind = jobs.Drop; key = key; path = None; peer = Some peer }

-- the actions as jobs, one after the other: each begins where a slot is free, and the driver settles
abbrev pub carries_out : DriverInput → ℕ → List Action → Driver → Driver
carries_out g r [] d = d
carries_out g r (action ∷ actions) d = carries_out g r actions (settles g (begins r (job_for action) d))

-- the action brings a content somewhere
abbrev pub is_transfer : Action → Bool
is_transfer (Get key) = true
is_transfer (Put key peer) = true
is_transfer (DropHere key) = false
is_transfer (DropFrom key peer) = false

-- those actions of the plan that bring contents
abbrev pub transfers : DriverInput → ℕ → Driver → Driver
transfers g r d = carries_out g r (filter is_transfer (plan_at g r d)) d

-- the others, which drop contents
abbrev pub drops_spared : DriverInput → ℕ → Driver → Driver
drops_spared g r d = carries_out g r (filter (λ action. not (is_transfer action)) (plan_at g r d)) d

-- Logs are shared; what one plan brings is brought; what a second plan drops is dropped; and logs are shared again.
abbrev pub syncs : DriverInput → ℕ → Driver → Driver
syncs g r d = shares_logs g r (drops_spared g r (transfers g r (shares_logs g r d)))
