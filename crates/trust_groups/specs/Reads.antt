-- Settings that are kept while lines are added: an index of the newest entries of each file of a branch (own).
use Rattle.std.specs.Prelude.{◌≡◌, ℕ, if◌then◌else◌, List, [], ◌∷◌, ◌++◌, map, bytes_eq, Option, Some, None}
use Rattle.std.specs.declared.vec.Vec.{Vec}
use Rattle.std.specs.declared.alloc.Global.{Global}
use Rattle.std.specs.Map.{lookup}
use Rattle.std.specs.BTreeMap.{is_at}
use Rattle.std.specs.Option.{unwrap_or}
use Rattle.annex_base.specs.ByteOrder.{text_cmp}
use Rattle.log_lines.specs.declared.entry.Entry.{Entry}
use Rattle.log_lines.specs.declared.entry.LogKind.{LogKind}
use Rattle.log_lines.specs.declared.entry.LogKind.TheVariants as kinds
use Rattle.log_lines.specs.Files.{kind_named}
use Rattle.log_lines.specs.Index.{Index, index_of}
use Rattle.log_lines.specs.Newest.{newest}
use Rattle.trust_groups.specs.Settings.{Lines}

-- of each file, by its path, its index; in order of path
abbrev pub Indices : Type 0
Indices = List (List ℕ × Index)

-- the index of a file, where its lines say something
abbrev pub index_at : Indices → List ℕ → Option Index
index_at indices path = lookup (is_at (text_cmp path)) indices

abbrev pub entries_or_none : Option Index → List Entry
entries_or_none None = []
entries_or_none (Some index) = index.entries

-- the newest entries of a file
abbrev pub entries_at : Indices → List ℕ → List Entry
entries_at indices path = entries_or_none (index_at indices path)

-- what kind of log a file is, if it is one: where no other log has its name, only a location log can stand at its path
abbrev pub kind_at : List ℕ → LogKind
kind_at path = unwrap_or (kind_named path) kinds.Location

-- the index is that of the lines; where there is none, they say nothing
abbrev pub IsIndexOf : Option Index → LogKind → List (List ℕ) → Type 0
IsIndexOf None kind lines = newest kind lines ≡ []
IsIndexOf (Some index) kind lines = index ≡ index_of kind lines

-- the settings have read these lines
abbrev pub HaveReadLines : Indices → Lines → Type 0
HaveReadLines indices lines = (path : List ℕ) → IsIndexOf (index_at indices path) (kind_at path) (lines path)

-- the lines, with one more of the file of this path
abbrev pub lines_with : Lines → List ℕ → List ℕ → Lines
lines_with lines path line = λ other. if bytes_eq path other then (lines other ++ line ∷ []) else lines other

-- a map's entries without where their paths lie in memory
abbrev pub view_of : List (Vec ℕ Global × Index) → Indices
view_of files = map (λ f. (f.0.items, f.1)) files
