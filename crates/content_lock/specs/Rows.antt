-- The rows of a table: its holds, the newest first, the bars by key, and the keys that are being filled (own).
use Rattle.std.specs.Prelude.{◌≡◌, ℕ, Bool, List, Option, bytes_eq}
use Rattle.std.specs.List.{list_any}
use Rattle.std.specs.Map.{lookup}
use Rattle.run_data.specs.declared.entry.EntryKind.{EntryKind}
use Rattle.run_data.specs.declared.row.Hold.{Hold}
use Rattle.node_model.specs.Rows.{bar_after, holds_after}

pub record Rows : Type 0 where
  pub holds : List Hold
  pub bars : List (List ℕ × ℕ)
  pub fills : List (List ℕ)

-- the job whose bar stands on the key
abbrev pub bar_at : Rows → List ℕ → Option ℕ
bar_at rows key = lookup (bytes_eq key) rows.bars

-- the key is being filled
abbrev pub is_filling : Rows → List ℕ → Bool
is_filling rows key = list_any (bytes_eq key) rows.fills

-- the holds and bars are those that an entry of this kind leaves; what is being filled stays
pub record AreAfter (kind : EntryKind) (was now : Rows) : Type 0 where
  pub holds : now.holds ≡ holds_after was.holds kind
  pub bars : (key : List ℕ) → bar_at now key ≡ bar_after key (bar_at was key) kind
  pub fills : now.fills ≡ was.fills
