-- The rows of a repository, and what its entries change in them: which contents are there, bars and holds (own).
use Rattle.std.specs.Prelude.{ℕ, ◌+◌, Bool, true, false, not, ◌&&◌, ◌||◌, if◌then◌else◌, ◌==◌, nat_lt, List, ◌∷◌, filter, map, Option, Some, None, bytes_eq}
use Rattle.std.specs.List.{list_any}
use Rattle.annex_base.specs.declared.kinds.Call.TheVariants.{Unhold}
use Rattle.run_data.specs.declared.row.Hold.{Hold}
use Rattle.run_data.specs.declared.entry.By.{By}
use Rattle.run_data.specs.declared.entry.By.TheVariants.{Script, Job as by_job, Peer}
use Rattle.run_data.specs.declared.job.Outcome.{Outcome}
use Rattle.run_data.specs.declared.job.Outcome.TheVariants.{Refused}
use Rattle.run_data.specs.declared.job.DropRefusal.{DropRefusal}
use Rattle.run_data.specs.declared.job.DropRefusal.TheVariants.{Lost}
use Rattle.run_data.specs.declared.entry.EntryKind.{EntryKind}
use Rattle.run_data.specs.declared.entry.EntryKind.TheVariants.{Gain, Share, Release, Bar, Gone, Close, Crash, Fault, End}
use Rattle.node_model.specs.Clocks.{hold_time}

-- the option is this number
abbrev pub option_is : Option ℕ → ℕ → Bool
option_is None n = false
option_is (Some m) n = m == n

-- whether the content of the key is there after an entry
abbrev pub present_after : List ℕ → Bool → EntryKind → Bool
present_after key was (Gain source size k) = was || bytes_eq k key
present_after key was (Gone source k) = was && not (bytes_eq k key)
present_after key was _ = was

-- a bar is put by a bar entry; it is off with the removal, with its job's end, and after a crash
abbrev pub bar_after : List ℕ → Option ℕ → EntryKind → Option ℕ
bar_after key was (Bar job need k) = if bytes_eq k key then Some job else was
bar_after key was (Gone source k) = if bytes_eq k key then None else was
bar_after key was (End job outcome) = if option_is was job then None else was
bar_after key was (Crash clock) = None
bar_after key was _ = was

-- the holds are for the same job or session
abbrev pub same_owner : By → By → Bool
same_owner Script Script = true
same_owner (by_job i) (by_job j) = i == j
same_owner (Peer p s) (Peer q t) = (p == q) && (s == t)
same_owner _ _ = false

-- the holds of this owner are kept from now on
abbrev pub keep_of : By → Hold → Hold
keep_of owner h = if same_owner h.owner owner then record h { kept = true } else h

-- the hold is kept from now on, and its ten minutes begin again with a clock that was set to this
abbrev pub restart : ℕ → Hold → Hold
restart clock h = record h { kept = true; end = clock + hold_time }

abbrev pub lost_ordered : DropRefusal → Bool
lost_ordered (Lost ordered) = ordered
lost_ordered _ = false

-- the job ended without the answer to an order that it had sent
abbrev pub is_lost_ordered : Outcome → Bool
is_lost_ordered (Refused refusal) = lost_ordered refusal
is_lost_ordered _ = false

-- a share adds an open hold; a release takes it away; the close of a server's end and a failed release keep it; the end of a job
-- releases the job's own, or keeps it after a lost order; a crash keeps every hold, expired ones too, for ten minutes of the new clock
abbrev pub holds_after : List Hold → EntryKind → List Hold
holds_after was (Share number end owner k) = record { number = number; key = k; end = end; kept = false; owner = owner } ∷ was
holds_after was (Release number k) = filter (λ h. not (h.number == number)) was
holds_after was (Close peer slot client) = if client then was else map (keep_of (Peer peer slot)) was
holds_after was (Fault Unhold owner) = map (keep_of owner) was
holds_after was (End job outcome) =
    if is_lost_ordered outcome then map (keep_of (by_job job)) was
    else filter (λ h. h.kept || not (same_owner h.owner (by_job job))) was
holds_after was (Crash clock) = map (restart clock) was
holds_after was _ = was

-- a hold blocks while it is open, or while the clock is below its end
abbrev pub blocks : List ℕ → ℕ → Hold → Bool
blocks key clock h = bytes_eq h.key key && (not h.kept || nat_lt clock h.end)

-- some hold on the key blocks
abbrev pub is_blocked : List Hold → List ℕ → ℕ → Bool
is_blocked hs key clock = list_any (blocks key clock) hs

abbrev pub content_after : List ℕ → Option ℕ → EntryKind → Option ℕ
content_after key was (Gain source size k) = if bytes_eq k key then Some size else was
content_after key was (Gone source k) = if bytes_eq k key then None else was
content_after key was _ = was
