-- What the maps of a store in memory have, for private contracts (own).
use Rattle.std.specs.Prelude.{ℕ, List, [], Option}
use Rattle.std.specs.BTreeMap.{is_at}
use Rattle.std.specs.Map.{lookup}
use Rattle.std.specs.Option.{unwrap_or}
use Rattle.annex_base.specs.ByteOrder.{text_cmp}

-- the bytes of a key, if it has some
abbrev pub bytes_at : List (List ℕ × List ℕ) → List ℕ → Option (List ℕ)
bytes_at entries key = lookup (is_at (text_cmp key)) entries

-- the bytes of a key, or none
abbrev pub part_at : List (List ℕ × List ℕ) → List ℕ → List ℕ
part_at entries key = unwrap_or (bytes_at entries key) []
