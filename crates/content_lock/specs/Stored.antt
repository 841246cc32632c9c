-- What a store has of a table's rows, where it tells (own).
use Rattle.std.specs.Prelude.{◌≡◌, ℕ, ◌+◌, Bool, true, List, ◌∷◌, length, map, Option, None, is_some}
use Rattle.std.specs.Option.{ForSome, option_map}
use Rattle.run_data.specs.declared.entry.By.TheVariants.{Script}
use Rattle.run_data.specs.declared.entry.EntryKind.{EntryKind}
use Rattle.run_data.specs.declared.row.Hold.{Hold}
use Rattle.node_model.specs.Clocks.{hold_time}
use Rattle.node_model.specs.Rows.{content_after, present_after}
use Rattle.object_store.specs.declared.keeper.HoldRecord.{HoldRecord}
use Rattle.object_store.specs.Stores.{Contents, with_at}

-- the store has the content of the key, or lacks it
abbrev pub HasContent : Option Contents → List ℕ → Bool → Type 0
HasContent known key here = ForSome known (λ contents. is_some (contents key) ≡ here)

-- the contents without that of the key
abbrev pub without_content : Option Contents → List ℕ → Option Contents
without_content known key = option_map (λ contents. with_at contents key None) known

-- the contents that are there, and their sizes, are those that an entry of this kind leaves
pub record AreContentsAfter (kind : EntryKind) (was now : Contents) : Type 0 where
  pub present : (key : List ℕ) → is_some (now key) ≡ present_after key (is_some (was key)) kind
  pub sizes : (key : List ℕ) → option_map length (now key) ≡ content_after key (option_map length (was key)) kind

-- the records with a new one, which stands first
abbrev pub with_new : HoldRecord → Option (List HoldRecord) → Option (List HoldRecord)
with_new r known = option_map (λ records. r ∷ records) known

-- the record of a hold
abbrev pub record_of : Hold → HoldRecord
record_of h = record { number = h.number; key = h.key; end = h.end }

-- a number and a key
abbrev pub Label : Type 0
Label = ℕ × List ℕ

abbrev pub label_of : Hold → Label
label_of h = (h.number, h.key)

abbrev pub label_in : HoldRecord → Label
label_in r = (r.number, r.key)

-- the records have the numbers and keys of the holds, in the same order
abbrev pub AreRecordsOf : List Hold → List HoldRecord → Type 0
AreRecordsOf holds records = map label_in records ≡ map label_of holds

abbrev pub Agrees : Option (List HoldRecord) → List Hold → Type 0
Agrees known holds = ForSome known (AreRecordsOf holds)

-- the records have the ends too, which a restart sets anew in the table alone
abbrev pub AgreesInEnds : Option (List HoldRecord) → List Hold → Type 0
AgreesInEnds known holds = ForSome known (λ records. records ≡ map record_of holds)

-- the hold that a crash to this clock leaves of a record: it is nobody's, and its ten minutes begin
abbrev pub kept_hold : ℕ → HoldRecord → Hold
kept_hold clock r = record { number = r.number; key = r.key; end = clock + hold_time; kept = true; owner = Script }

-- the hold, which is nobody's
abbrev pub ownerless : Hold → Hold
ownerless h = record h { owner = Script }
