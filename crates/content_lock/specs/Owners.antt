-- Entries of one owner, by which each other's holds stay (own).
use Rattle.std.specs.Prelude.{◌≡◌, ℕ}
use Rattle.run_data.specs.declared.entry.By.{By}
use Rattle.run_data.specs.declared.entry.By.TheVariants.{Job as by_job}
use Rattle.run_data.specs.declared.entry.EntryKind.{EntryKind}
use Rattle.run_data.specs.declared.entry.EntryKind.TheVariants.{Release, Share, Close, Crash, End, Fault}

-- a hold that the entry adds is this owner's, and has this number; a call that failed was this owner's; a job that it ends is this owner. No
-- release, no close and no crash is such an entry
abbrev pub IsOwners : By → ℕ → EntryKind → Type 0
IsOwners owner n (Share number end by key) = (by ≡ owner) × (number ≡ n)
IsOwners owner n (Fault call by) = by ≡ owner
IsOwners owner n (End job outcome) = by_job job ≡ owner
IsOwners owner n (Release number key) = ⊥
IsOwners owner n (Close peer slot client) = ⊥
IsOwners owner n (Crash clock) = ⊥
IsOwners owner n kind = Unit {0}
