-- How the records of keys change; for private contracts (own).
use Rattle.std.specs.Prelude.{◌≡◌, ◌⊎◌, ℕ, ◌<◌, ◌+◌, ◌^◌, Bool, true, false, ◌||◌, ◌==◌, if◌then◌else◌, List, [], ◌∷◌, ◌++◌, length, count_by, Option, Some, None, bytes_eq}
use Rattle.std.specs.List.{list_any}
use Rattle.std.specs.BTreeMap.{is_at}
use Rattle.std.specs.Map.{lookup}
use Rattle.annex_base.specs.ByteOrder.{text_cmp}
use Rattle.run_data.specs.declared.entry.EntryKind.{EntryKind}
use Rattle.run_data.specs.declared.entry.EntryKind.TheVariants.{Gain, Gone}
use Rattle.run_data.specs.declared.job.Proof.{Proof}
use Rattle.run_model.specs.Safety.{smaller}
use Rattle.step_judging.specs.Audits.{KeyAudit, new_audit, with_count}
use Rattle.run_audit.specs.Holders.{AreNone, holder_at, is_held}
use Rattle.run_audit.specs.Records.{audit_in}
use Rattle.run_audit.specs.declared.holders.Holder.{Holder}
use Rattle.run_audit.specs.declared.key_audit.KeyAudit as told
use Rattle.run_audit.specs.declared.record.KeyRecord.{KeyRecord}
use Rattle.run_audit.specs.declared.records.Records.{Records}

-- ---- a drop

-- one removal more, of a drop with this need and evidence
abbrev pub removed_by : Option Proof → KeyAudit → KeyAudit
removed_by None was = was
removed_by (Some p) was = record { removals = was.removals + 1; least = was.least; need = Some (smaller p.need.m was.need) }

abbrev pub claims_of : Option Proof → ℕ → Bool
claims_of None r = false
claims_of (Some p) r = list_any (λ c. c == r) p.trusted

-- ---- a record

-- it is the record of a key that no entry has changed
pub record IsNew (count : ℕ) (x : KeyRecord) : Type 0 where
  pub audit_is : audit_in x ≡ new_audit
  pub holders : AreNone count x.holders

-- the claims of these were counted
pub record ClaimsHolders (claims : ℕ → Bool) (was now : List Holder) : Type 0 where
  pub all : length now ≡ length was
  pub each : (r : ℕ) → r < length was → holder_at now r ≡ record (holder_at was r) { claim = (holder_at was r).claim || claims r }

-- the repository has a copy, or has none; where that is a removal, its drop counted claims; and the copies and claims were counted
pub record IsChanged (repo : ℕ) (copy : Bool) (proof : Option Proof) (was now : KeyRecord) : Type 0 where
  pub all : length now.holders.each.items ≡ length was.holders.each.items
  pub each : (r : ℕ) → r < length was.holders.each.items → holder_at now.holders.each.items r
      ≡ record { copy = if repo == r then copy else (holder_at was.holders.each.items r).copy; claim = (holder_at was.holders.each.items r).claim || claims_of proof r }
  pub audit_is : audit_in now ≡ with_count (count_by is_held now.holders.each.items) (removed_by proof (audit_in was))

abbrev pub IsChangedAt : ℕ → Bool → Option Proof → Option KeyRecord → Option KeyRecord → Type 0
IsChangedAt repo copy proof (Some was) (Some now) = IsChanged repo copy proof was now
IsChangedAt repo copy proof was now = ⊥

-- ---- the records of all keys

abbrev pub record_in : List (List ℕ × KeyRecord) → List ℕ → Option KeyRecord
record_in entries key = lookup (is_at (text_cmp key)) entries

abbrev pub record_at : Records → List ℕ → Option KeyRecord
record_at x key = record_in x.kept.entries key

-- a record was added for a key that has none
abbrev pub IsAdded : ℕ → Option KeyRecord → Option KeyRecord → Type 0
IsAdded count None (Some now) = IsNew count now
IsAdded count was now = ⊥

-- what is kept of each key stays
abbrev pub StayEntries : ℕ → List (List ℕ × KeyRecord) → List (List ℕ × KeyRecord) → Type 0
StayEntries count was now = (key : List ℕ) → (record_in now key ≡ record_in was key) ⊎ IsAdded count (record_in was key) (record_in now key)

pub record StayRecords (was now : Records) : Type 0 where
  pub repos : now.repos ≡ was.repos
  pub each : StayEntries was.repos was.kept.entries now.kept.entries

-- the key that an entry of this kind gains or removes
abbrev pub changed_key : EntryKind → Option (List ℕ)
changed_key (Gain by size key) = Some key
changed_key (Gone by key) = Some key
changed_key kind = None

abbrev pub HasPlace : List ℕ → List (List ℕ × KeyRecord) → Type 0
HasPlace key entries = (y : KeyRecord) × (record_in entries key ≡ Some y)

-- the key that an entry of this kind changes has a record
abbrev pub HasPlaceFor : EntryKind → List (List ℕ × KeyRecord) → Type 0
HasPlaceFor (Gain by size key) entries = HasPlace key entries
HasPlaceFor (Gone by key) entries = HasPlace key entries
HasPlaceFor kind entries = Unit {0}

-- each record can count one removal more, and its repositories
abbrev pub HasFew : List (List ℕ × KeyRecord) → Type 0
HasFew entries = (key : List ℕ) (y : KeyRecord) → record_in entries key ≡ Some y → (y.removals + 1 < 2 ^ 32) × (length y.holders.each.items < 2 ^ 32)

-- where it is so the record changed, and else it stayed
abbrev pub IsChangedIf : Bool → ℕ → Bool → Option Proof → Option KeyRecord → Option KeyRecord → Type 0
IsChangedIf true repo copy proof was now = IsChangedAt repo copy proof was now
IsChangedIf false repo copy proof was now = now ≡ was

-- an entry of this kind of the repository was noted, with the proof of its drop, if it is a removal
abbrev pub IsNoted : ℕ → EntryKind → Option Proof → List ℕ → Option KeyRecord → Option KeyRecord → Type 0
IsNoted repo (Gain by size k) proof key was now = IsChangedIf (bytes_eq k key) repo true None was now
IsNoted repo (Gone by k) proof key was now = IsChangedIf (bytes_eq k key) repo false proof was now
IsNoted repo kind proof key was now = now ≡ was

pub record AreNoted (repo : ℕ) (kind : EntryKind) (proof : Option Proof) (was now : Records) : Type 0 where
  pub repos : now.repos ≡ was.repos
  pub each : (key : List ℕ) → IsNoted repo kind proof key (record_at was key) (record_at now key)

-- ---- what is told

abbrev pub told_by : List ℕ → ℕ → Option ℕ → Option ℕ → List told.KeyAudit
told_by key removals (Some least) (Some need) = record { key = key; removals = removals; least = least; mincopies = need } ∷ []
told_by key removals least need = []

-- what is told of a key with this record: only one with a removal has a least count and a least need
abbrev pub told_key : List ℕ → KeyRecord → List told.KeyAudit
told_key key x = told_by key x.removals x.least x.need

abbrev pub told_of : List (List ℕ × KeyRecord) → List told.KeyAudit
told_of [] = []
told_of (e ∷ entries) = told_key e.0 e.1 ++ told_of entries
