-- What an entry adds to the rows of its repository, and what the end of a job leaves of holds (own).
use Rattle.std.specs.Prelude.{ℕ, ◌+◌, ◌<◌, ◌^◌, Bool, false, not, ◌||◌, if◌then◌else◌, List, filter, map, Option, Some, None, bytes_eq}
use Rattle.std.specs.Map.{lookup}
use Rattle.run_data.specs.declared.entry.By.TheVariants.{Job as by_job}
use Rattle.run_data.specs.declared.entry.EntryKind.{EntryKind}
use Rattle.run_data.specs.declared.entry.EntryKind.TheVariants.{Gain, Share, Bar, Crash}
use Rattle.run_data.specs.declared.row.Hold.{Hold}
use Rattle.node_model.specs.Clocks.{hold_time}
use Rattle.node_model.specs.Rows.{keep_of, same_owner}

-- the number that stands at a key
abbrev pub number_at : List (List ℕ × ℕ) → List ℕ → Option ℕ
number_at entries key = lookup (bytes_eq key) entries

-- ---- what an entry of this kind adds

abbrev pub gained_key : EntryKind → Option (List ℕ)
gained_key (Gain by size key) = Some key
gained_key kind = None

abbrev pub barred_key : EntryKind → Option (List ℕ)
barred_key (Bar job need key) = Some key
barred_key kind = None

-- an open hold
abbrev pub new_hold : EntryKind → Option Hold
new_hold (Share hold end by key) = Some (record { number = hold; key = key; end = end; kept = false; owner = by })
new_hold kind = None

-- a crash sets the clock to a number to which ten minutes can be added within 64 bits
abbrev pub SetsClock : EntryKind → Type 0
SetsClock (Crash clock) = clock + hold_time < 2 ^ 64
SetsClock kind = Unit {0}

-- ---- for private contracts

-- the hold stays after the end of this job, which has its answers
abbrev pub outlives : ℕ → Hold → Bool
outlives j h = h.kept || not (same_owner h.owner (by_job j))

-- the holds after the end of a job, which has lost the answer to its order or not
abbrev pub holds_after_end : ℕ → Bool → List Hold → List Hold
holds_after_end j lost was = if lost then map (keep_of (by_job j)) was else filter (outlives j) was
