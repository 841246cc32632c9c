-- Indices and lines with more of one file (for private contracts).
use Rattle.std.specs.Prelude.{ℕ, Bool, true, false, if◌then◌else◌, List, [], ◌∷◌, ◌++◌, bytes_eq}
use Rattle.std.specs.Map.{set_value}
use Rattle.std.specs.BTreeMap.{is_at, insert_entry}
use Rattle.annex_base.specs.ByteOrder.{text_cmp}
use Rattle.log_lines.specs.declared.entry.Entry.{Entry}
use Rattle.log_lines.specs.Index.{Index}
use Rattle.trust_groups.specs.Settings.{Lines}
use Rattle.trust_groups.specs.Reads.{Indices}

abbrev pub is_nil : List Entry → Bool
is_nil [] = true
is_nil (e ∷ es) = false

-- the indices with this one of a file that is there
abbrev pub indices_with : Indices → List ℕ → Index → Indices
indices_with indices path index = set_value (is_at (text_cmp path)) indices index

-- the indices with this one of a file that isn't there, unless it is empty
abbrev pub indices_and : Indices → List ℕ → Index → Indices
indices_and indices path index = if is_nil index.entries then indices else insert_entry text_cmp indices path index

-- the lines, with more of the file of this path
abbrev pub lines_and : Lines → List ℕ → List (List ℕ) → Lines
lines_and lines path more = λ other. if bytes_eq path other then (lines other ++ more) else lines other
