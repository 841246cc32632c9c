-- The jobs of a repository, each in one of its four slots, and which job makes an entry (own).
use Rattle.std.specs.Prelude.{ℕ, ◌+◌, Bool, true, false, not, if◌then◌else◌, ◌==◌, List, Option, Some, None}
use Rattle.std.specs.List.{list_any}
use Rattle.run_data.specs.declared.job.Job.{Job}
use Rattle.run_data.specs.declared.entry.By.{By}
use Rattle.run_data.specs.declared.entry.By.TheVariants.{Job as by_job}
use Rattle.run_data.specs.declared.entry.EntryKind.{EntryKind}
use Rattle.run_data.specs.declared.entry.EntryKind.TheVariants.{Begin, Gain, Share, Bar, Gone, Fault, End, Order, Talk}

-- a job that runs, in one of the four slots of its repository
pub record RunningJob : Type 0 where
  pub number : ℕ
  pub slot : ℕ
  pub what : Job

-- some job runs in the slot
abbrev pub uses : List RunningJob → ℕ → Bool
uses js slot = list_any (λ j. j.slot == slot) js

-- the least slot in which no job runs
abbrev pub free_slot : List RunningJob → ℕ
free_slot js = if not (uses js 0) then 0 else (if not (uses js 1) then 1 else (if not (uses js 2) then 2 else 3))

abbrev pub is_begin : EntryKind → Bool
is_begin (Begin job what) = true
is_begin _ = false

-- the job that something was done by, if it was a job
abbrev pub job_by : By → Option ℕ
job_by (by_job j) = Some j
job_by _ = None

-- the job of its repository that made an entry of this kind
abbrev pub job_of : EntryKind → Option ℕ
job_of (Begin job what) = Some job
job_of (Gain source size key) = job_by source
job_of (Share hold end owner key) = job_by owner
job_of (Bar job need key) = Some job
job_of (Order job target deadline need key) = Some job
job_of (Gone source key) = job_by source
job_of (Talk job) = job
job_of (Fault call source) = job_by source
job_of (End job outcome) = Some job
job_of _ = None

-- how many jobs it has begun
abbrev pub begun_after : ℕ → EntryKind → ℕ
begun_after was kind = if is_begin kind then was + 1 else was
