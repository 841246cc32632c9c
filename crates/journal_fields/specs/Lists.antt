-- The reading of a list with a byte between its items, by the reading of an item (own).
use Rattle.std.specs.Prelude.{ℕ, List, [], Option, Some, bytes_eq, codes, if◌then◌else◌}
use Rattle.journal_reading.specs.Forms.{items_in, parts_of}

-- the items between bytes of this kind, or none where a dash stands
abbrev pub joined_read : {A : Type 0} → ℕ → (List ℕ → Option A) → List ℕ → Option (List A)
joined_read between read word = if bytes_eq (codes "-") word then Some [] else items_in read (parts_of between word)
