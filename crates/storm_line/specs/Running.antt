-- The numbers of running jobs, for private contracts (own).
use Rattle.std.specs.Prelude.{◌≡◌, ℕ, not, ◌==◌, if◌then◌else◌, List, [], ◌∷◌, filter, map}
use Rattle.run_data.specs.declared.entry.Entry.{Entry}
use Rattle.run_data.specs.declared.entry.EntryKind.{EntryKind}
use Rattle.run_data.specs.declared.entry.EntryKind.TheVariants.{Begin, Crash, End}
use Rattle.run_model.specs.Past.{jobs}
use Rattle.storm_line.specs.declared.jobs.Jobs.{Jobs}
use Rattle.storm_line.specs.Counts.{done_jobs, is_done, refused_jobs}

-- the numbers of the running jobs after an entry of their repository
abbrev pub numbers_after : List ℕ → EntryKind → List ℕ
numbers_after numbers (Begin job what) = job ∷ numbers
numbers_after numbers (End job outcome) = filter (λ n. not (n == job)) numbers
numbers_after numbers (Crash clock) = []
numbers_after numbers kind = numbers

-- how many jobs an entry of the kind ends other than done, where so many run
abbrev pub refused_by_of : ℕ → EntryKind → ℕ
refused_by_of running (End job outcome) = if is_done outcome then 0 else 1
refused_by_of running (Crash clock) = running
refused_by_of running kind = 0

-- what is known of the jobs of r after these entries, the newest first
pub record HasCounted (known : Jobs) (past : List Entry) (r : ℕ) : Type 0 where
  pub running : known.running.items ≡ map (λ j. j.number) (jobs past r)
  pub done : known.done ≡ done_jobs past r
  pub refused : known.refused ≡ refused_jobs past r
