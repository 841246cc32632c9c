-- What the entries so far say of each repository (own).
use Rattle.std.specs.Prelude.{◌≡◌, ◌⊎◌, ℕ, ◌+◌, Bool, false, not, ◌&&◌, if◌then◌else◌, ◌==◌, List, [], ◌∷◌, length, filter, Option, Some, None}
use Rattle.run_data.specs.declared.entry.Entry.{Entry}
use Rattle.run_data.specs.declared.run.RepoView.{RepoView}
use Rattle.run_data.specs.Repos.{offset_of}
use Rattle.run_data.specs.declared.job.Job.{Job}
use Rattle.drop_proof.specs.declared.rule.Need.{Need}
use Rattle.run_data.specs.declared.row.Hold.{Hold}
use Rattle.run_data.specs.declared.entry.EntryKind.{EntryKind}
use Rattle.run_data.specs.declared.entry.EntryKind.TheVariants.{Begin, Bar, Crash, End}
use Rattle.node_model.specs.Rows.{option_is, present_after, bar_after, holds_after}
use Rattle.node_model.specs.Clocks.{ClockSet, runs_on}
use Rattle.node_model.specs.Slots.{RunningJob, free_slot, is_begin}

-- A past is the entries before some place, the newest first, so each definition here is a recursion on it: what an
-- entry changes, and else what was before. Only the entries of a repository change what is said of it.

-- the entry is one of this repository
abbrev pub is_of : ℕ → Entry → Bool
is_of r e = option_is e.repo r

-- the time of the newest entry
abbrev pub now : List Entry → ℕ
now [] = 0
now (e ∷ past) = e.time

-- ---- clocks

-- a crash sets the clock to the number that it names
abbrev pub set_after : ℕ → ClockSet → EntryKind → ClockSet
set_after time was (Crash clock) = record { at = time; to = clock }
set_after time was _ = was

-- the last setting of the clock of r; at first it is its wall clock
abbrev pub clock_set : List RepoView → List Entry → ℕ → ClockSet
clock_set repos [] r = record { at = 0; to = offset_of repos r }
clock_set repos (e ∷ past) r = if is_of r e then set_after e.time (clock_set repos past r) e.kind else clock_set repos past r

-- the clock of r at a time, as it was set last: everything but stamps reads it
abbrev pub clock : List RepoView → List Entry → ℕ → ℕ → ℕ
clock repos past r time = runs_on (clock_set repos past r) time

-- the entry stands in the past, after these
abbrev pub Occurs : List Entry → Entry → List Entry → Type 0
Occurs [] x before = ⊥
Occurs (e ∷ past) x before = ((x ≡ e) × (before ≡ past)) ⊎ Occurs past x before

-- a fact of each entry, with the past before it
abbrev pub Always : (List Entry → Entry → Type 0) → List Entry → Type 0
Always P [] = Unit {0}
Always P (e ∷ past) = P past e × Always P past

-- ---- rows

-- the last gain or gone of the key is a gain
abbrev pub present : List Entry → ℕ → List ℕ → Bool
present [] r key = false
present (e ∷ past) r key = if is_of r e then present_after key (present past r key) e.kind else present past r key

-- the job whose bar stands on the key
abbrev pub bar : List Entry → ℕ → List ℕ → Option ℕ
bar [] r key = None
bar (e ∷ past) r key = if is_of r e then bar_after key (bar past r key) e.kind else bar past r key

-- the holds of a repository, the newest first
abbrev pub holds : List Entry → ℕ → List Hold
holds [] r = []
holds (e ∷ past) r = if is_of r e then holds_after (holds past r) e.kind else holds past r

-- ---- jobs

-- a job begins in the least free slot, and ends by its end entry or by a crash
abbrev pub jobs_after : List RunningJob → EntryKind → List RunningJob
jobs_after js (Begin job what) = record { number = job; slot = free_slot js; what = what } ∷ js
jobs_after js (End job outcome) = filter (λ j. not (j.number == job)) js
jobs_after js (Crash clock) = []
jobs_after js _ = js

-- the running jobs, the newest first
abbrev pub jobs : List Entry → ℕ → List RunningJob
jobs [] r = []
jobs (e ∷ past) r = if is_of r e then jobs_after (jobs past r) e.kind else jobs past r

-- the bar of a local drop, which is its decision: where it stands, on what, and how many copies are needed
pub record Decision : Type 0 where
  pub place : ℕ
  pub key : List ℕ
  pub need : Need

-- the bar entry of the job, after this many entries
abbrev pub decided_after : ℕ → ℕ → Option Decision → EntryKind → Option Decision
decided_after place j was (Bar job need k) = if job == j then Some (record { place = place; key = k; need = need }) else was
decided_after place j was _ = was

-- the decision of job j of r, if it has put its bar
abbrev pub decision : List Entry → ℕ → ℕ → Option Decision
decision [] r j = None
decision (e ∷ past) r j = if is_of r e then decided_after (length past) j (decision past r j) e.kind else decision past r j

-- how many jobs the repository has begun
abbrev pub begun_count : List Entry → ℕ → ℕ
begun_count [] r = 0
begun_count (e ∷ past) r = if is_of r e && is_begin e.kind then begun_count past r + 1 else begun_count past r

-- how many entries the repository has made
abbrev pub entry_count : List Entry → ℕ → ℕ
entry_count [] r = 0
entry_count (e ∷ past) r = if is_of r e then entry_count past r + 1 else entry_count past r

abbrev pub begun_job_after : ℕ → Option Job → EntryKind → Option Job
begun_job_after j was (Begin job what) = if job == j then Some what else was
begun_job_after j was _ = was

-- the job that repository r began last with this number
abbrev pub begun_job : List Entry → ℕ → ℕ → Option Job
begun_job [] r j = None
begun_job (e ∷ past) r j = if is_of r e then begun_job_after j (begun_job past r j) e.kind else begun_job past r j
