-- The hold records that a map has, for private contracts (own).
use Rattle.std.specs.Prelude.{ℕ, List, map}
use Rattle.std.specs.declared.cmp.Reverse.{Reverse}
use Rattle.object_store.specs.declared.hold.Hold.{Hold}
use Rattle.object_store.specs.declared.keeper.HoldRecord.{HoldRecord}

abbrev pub record_of : Reverse ℕ × Hold → HoldRecord
record_of e = record { number = e.0.0; key = e.1.key; end = e.1.end }

abbrev pub records_of : List (Reverse ℕ × Hold) → List HoldRecord
records_of entries = map record_of entries
