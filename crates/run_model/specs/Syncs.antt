-- What a sync of a repository has done, as its run tells it from one place up to another (own).
use Rattle.std.specs.Prelude.{ℕ, ◌-◌, Bool, true, false, not, ◌&&◌, ◌||◌, if◌then◌else◌, ◌==◌, nat_le, nat_lt, List, [], ◌∷◌, drop, filter, flat_map, length, take}
use Rattle.std.specs.List.{list_any}
use Rattle.run_data.specs.declared.entry.Entry.{Entry}
use Rattle.run_data.specs.declared.entry.EntryKind.{EntryKind}
use Rattle.run_data.specs.declared.entry.EntryKind.TheVariants.{End}
use Rattle.run_data.specs.declared.job.Outcome.{Outcome}
use Rattle.run_data.specs.declared.job.Outcome.TheVariants.{Dropped, DroppedAbsent, Got, Copied, Refused, TransferRefused}
use Rattle.run_data.specs.declared.run.Run.{Run}
use Rattle.run_model.specs.Past.{begun_count, is_of}
use Rattle.run_model.specs.Safety.{past_at}

-- ---- how its jobs ended

-- how a job with a number past this one ended by an entry of this kind, if one did
abbrev pub end_past : ℕ → EntryKind → List Outcome
end_past n (End j outcome) = if nat_lt n j then outcome ∷ [] else []
end_past n kind = []

-- so of a job of r
abbrev pub outcome_past : ℕ → ℕ → Entry → List Outcome
outcome_past r n e = if is_of r e then end_past n e.kind else []

-- the entries from one place up to another
abbrev pub entries_between : Run → ℕ → ℕ → List Entry
entries_between run from upto = take (upto - from) (drop from run.entries)

-- How the jobs of r ended that it began there and that ended there, in order. Their numbers are past the count of those it began before.
abbrev pub outcomes_between : Run → ℕ → ℕ → ℕ → List Outcome
outcomes_between run r from upto = flat_map (outcome_past r (begun_count (past_at run from) r)) (entries_between run from upto)

-- ---- its four numbers

abbrev pub is_get : Outcome → Bool
is_get (Got source start) = true
is_get outcome = false

abbrev pub is_put : Outcome → Bool
is_put (Copied start) = true
is_put outcome = false

-- also where the target had no content any more
abbrev pub is_drop : Outcome → Bool
is_drop (Dropped proof) = true
is_drop (DroppedAbsent proof) = true
is_drop outcome = false

abbrev pub is_refused : Outcome → Bool
is_refused (Refused refusal) = true
is_refused (TransferRefused refusal) = true
is_refused outcome = false

-- how many of its gets, its copies and its drops are done, and how many of its jobs were refused
pub record SyncNumbers : Type 0 where
  pub get : ℕ
  pub put : ℕ
  pub drop : ℕ
  pub refused : ℕ

abbrev pub numbers_of : List Outcome → SyncNumbers
numbers_of outcomes = record {
  get = length (filter is_get outcomes);
  put = length (filter is_put outcomes);
  drop = length (filter is_drop outcomes);
  refused = length (filter is_refused outcomes);
}

-- the numbers of a sync of r that made the entries from one place up to another
abbrev pub sync_numbers : Run → ℕ → ℕ → ℕ → SyncNumbers
sync_numbers run r from upto = numbers_of (outcomes_between run r from upto)

-- ---- which of its jobs tell how they ended

-- the jobs of a sync: those of a repository with numbers past one, up to another
pub record SyncJobs : Type 0 where
  pub repo : ℕ
  pub past : ℕ
  pub upto : ℕ

-- the jobs that r began from one place up to another
abbrev pub jobs_between : Run → ℕ → ℕ → ℕ → SyncJobs
jobs_between run r from upto = record { repo = r; past = begun_count (past_at run from) r; upto = begun_count (past_at run upto) r }

abbrev pub has_job : ℕ → ℕ → SyncJobs → Bool
has_job r j x = (x.repo == r) && (nat_lt x.past j && nat_le j x.upto)

-- A job of r tells how it ended, unless it is one of these syncs' and is done.
abbrev pub tells_end : List SyncJobs → ℕ → ℕ → Outcome → Bool
tells_end syncs r j outcome = is_refused outcome || not (list_any (has_job r j) syncs)
