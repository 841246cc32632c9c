-- The globs of patterns of paths, kept while their lines are added (for private contracts).
use Rattle.std.specs.Prelude.{◌≡◌, ℕ, Bool, true, false, List, filter, fold, map, max, Option, Some, None}
use Rattle.std.specs.Map.{lookup}
use Rattle.std.specs.BTreeMap.{is_at}
use Rattle.annex_base.specs.ByteOrder.{text_cmp}
use Rattle.annex_base.specs.Lists.{Each, Member}
use Rattle.glob_match.specs.declared.item.Item.{Item}
use Rattle.glob_match.specs.Numbers.{pattern_matches}
use Rattle.glob_match.specs.Spelled.{glob_in}
use Rattle.log_lines.specs.declared.entry.Entry.{Entry}
use Rattle.log_lines.specs.declared.entry.LogKind.{LogKind}
use Rattle.log_lines.specs.declared.entry.LogKind.TheVariants as kinds
use Rattle.log_lines.specs.declared.entry.Topic.{Topic}
use Rattle.log_lines.specs.declared.entry.Topic.TheVariants as topics
use Rattle.log_lines.specs.Files.{file_name}
use Rattle.log_lines.specs.Reading.{entry_of}
use Rattle.trust_groups.specs.Settings.{Lines}
use Rattle.trust_groups.specs.Reads.{HaveReadLines, Indices}

-- of each pattern, the glob that it spells, if it spells one; in order of pattern
abbrev pub Globs : Type 0
Globs = List (List ℕ × Option (List Item))

-- the log files of numbers by path
abbrev pub is_by_path : LogKind → Bool
is_by_path kinds.NumcopiesPath = true
is_by_path kinds.MincopiesPath = true
is_by_path _ = false

abbrev pub pattern_of : Topic → Option (List ℕ)
pattern_of (topics.Pattern pattern) = Some pattern
pattern_of _ = None

abbrev pub pattern_said : Option Entry → Option (List ℕ)
pattern_said None = None
pattern_said (Some e) = pattern_of e.topic

-- a pattern that is spoken of is kept with the glob that it spells
abbrev pub HasGlob : Globs → Option (List ℕ) → Type 0
HasGlob globs None = Unit {0}
HasGlob globs (Some pattern) = lookup (is_at (text_cmp pattern)) globs ≡ Some (glob_in pattern)

-- what one keeps, the other keeps
abbrev pub KeepGlobs : Globs → Globs → Type 0
KeepGlobs old new = (pattern : Option (List ℕ)) → HasGlob old pattern → HasGlob new pattern

-- so are those of lines of a file
abbrev pub HaveGlobs : Globs → LogKind → List (List ℕ) → Type 0
HaveGlobs globs kind lines = (line : List ℕ) → Member line lines → HasGlob globs (pattern_said (entry_of kind line))

-- so are those of entries
abbrev pub HaveGlobsOf : Globs → List Entry → Type 0
HaveGlobsOf globs es = Each (λ e. HasGlob globs (pattern_of e.topic)) es

-- so are those of the files of numbers by path
abbrev pub HaveAllGlobs : Globs → Lines → Type 0
HaveAllGlobs globs lines = (kind : LogKind) → is_by_path kind ≡ true → HaveGlobs globs kind (lines (file_name kind))

-- some lines were read, and each pattern of paths among them is kept with its glob
pub record AreKept (globs : Globs) (indices : Indices) : Type 0 where
  pub lines : Lines
  pub reads : HaveReadLines indices lines
  pub have : HaveAllGlobs globs lines

-- ---- the greatest of some numbers

-- the greater of two numbers that may be missing
abbrev pub greater : Option ℕ → Option ℕ → Option ℕ
greater None other = other
greater (Some n) None = Some n
greater (Some n) (Some m) = Some (max n m)

-- the greatest of a number that was found and of others
abbrev pub greatest : Option ℕ → List ℕ → Option ℕ
greatest found ns = fold (λ so_far n. greater so_far (Some n)) found ns

-- the numbers whose patterns match the path
abbrev pub numbers_for : List ℕ → List (List ℕ × ℕ) → List ℕ
numbers_for path patterns = map (λ p. p.1) (filter (λ p. pattern_matches p.0 path) patterns)
