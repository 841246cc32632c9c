-- How holds by number and the numbers of each key belong together; for private contracts.
use Rattle.std.specs.Prelude.{◌≡◌, ◌<◌, ℕ, Bool, true, false, not, ◌||◌, nat_lt, if◌then◌else◌, List, [], ◌∷◌, filter, map, reverse, Option, Some, None, bytes_eq}
use Rattle.std.specs.Map.{values_of, lookup}
use Rattle.std.specs.BTreeMap.{is_at}
use Rattle.std.specs.Ordering.{nat_cmp}
use Rattle.std.specs.declared.alloc.Global.{Global}
use Rattle.std.specs.declared.vec.Vec.{Vec}
use Rattle.annex_base.specs.Lists.{Each}
use Rattle.run_data.specs.declared.row.Hold.{Hold}
use Rattle.node_model.specs.Rows.{blocks}
use Rattle.object_store.specs.declared.keeper.HoldRecord.{HoldRecord}
use Rattle.object_store.specs.Stores as stores
use Rattle.content_lock.specs.Stored.{kept_hold}
use Rattle.content_lock.specs.declared.hold.Blocker.{Blocker}

-- holds in rising order of their numbers, and in falling order
abbrev pub AreRising : List Hold → Type 0
AreRising [] = Unit {0}
AreRising (h ∷ hs) = Each (λ x. h.number < x.number) hs × AreRising hs

abbrev pub AreFalling : List Hold → Type 0
AreFalling [] = Unit {0}
AreFalling (h ∷ hs) = Each (λ x. x.number < h.number) hs × AreFalling hs

abbrev pub with_number : Hold → ℕ × Hold
with_number h = (h.number, h)

-- the holds on a key
abbrev pub on_key : List ℕ → List Hold → List Hold
on_key key holds = filter (λ h. bytes_eq h.key key) holds

abbrev pub items_in : Option (Vec ℕ Global) → List ℕ
items_in None = []
items_in (Some numbers) = numbers.items

-- the numbers that are listed at a key
abbrev pub listed_at : List (List ℕ × Vec ℕ Global) → List ℕ → List ℕ
listed_at lists key = items_in (lookup (bytes_eq key) lists)

-- a map of holds in order of their numbers, and lists of the numbers on each key, in the same order
pub record IsIndexed (holds : List (ℕ × Hold)) (lists : List (List ℕ × Vec ℕ Global)) : Type 0 where
  pub named : holds ≡ map with_number (values_of holds)
  pub rising : AreRising (values_of holds)
  pub listed : (key : List ℕ) → listed_at lists key ≡ map (λ h. h.number) (on_key key (values_of holds))

-- the map has the kept holds of the records, of each number the last; where the records stand in falling order, these are all
pub record IsRecovered (clock : ℕ) (records : List HoldRecord) (holds : List (ℕ × Hold)) : Type 0 where
  pub named : holds ≡ map with_number (values_of holds)
  pub rising : AreRising (values_of holds)
  pub kept : Each (λ h. h.kept ≡ true) (values_of holds)
  pub same : stores.AreFalling records → reverse (values_of holds) ≡ map (kept_hold clock) records

-- when the hold ends: an open one without an end
abbrev pub end_of : Hold → Option ℕ
end_of h = if h.kept then Some h.end else None

-- the hold blocks longer than the one that was found: that is not open, and this one is or ends later
abbrev pub outlasts : Hold → Option ℕ → Bool
outlasts h None = false
outlasts h (Some other) = not h.kept || nat_lt other h.end

-- which hold is named, with one more of a greater number
abbrev pub blocker_with : Hold → Option Blocker → Blocker
blocker_with h None = record { hold = h.number; until = end_of h }
blocker_with h (Some found) = if outlasts h found.until then record { hold = h.number; until = end_of h } else found

-- which of the holds that block is named
abbrev pub blocker_of : List Hold → Option Blocker
blocker_of [] = None
blocker_of (h ∷ hs) = Some (blocker_with h (blocker_of hs))

-- the hold of a number
abbrev pub hold_at : List (ℕ × Hold) → ℕ → Option Hold
hold_at holds number = lookup (is_at (nat_cmp number)) holds

-- which hold is named, with the one that was looked up, where it blocks
abbrev pub after_hold : List ℕ → ℕ → Option Hold → Option Blocker → Option Blocker
after_hold key now None found = found
after_hold key now (Some h) found = if blocks key now h then Some (blocker_with h found) else found
