-- What the lines of a branch set (git-annex internals: location log; git-annex: the pages named below).
use Rattle.std.specs.Prelude.{ℕ, Bool, true, false, not, ◌&&◌, List, [], ◌∷◌, filter, flat_map, max, Option, Some, None}
use Rattle.annex_base.specs.Settings.{Settings}
use Rattle.annex_base.specs.declared.kinds.Level.{Level}
use Rattle.annex_base.specs.declared.kinds.Level.TheVariants as levels
use Rattle.hash_dirs.specs.LogPath.{location_path}
use Rattle.log_lines.specs.declared.entry.Entry.{Entry}
use Rattle.log_lines.specs.declared.entry.LogKind.{LogKind}
use Rattle.log_lines.specs.declared.entry.LogKind.TheVariants as kinds
use Rattle.log_lines.specs.declared.entry.Topic.{Topic}
use Rattle.log_lines.specs.declared.entry.Topic.TheVariants as topics
use Rattle.log_lines.specs.declared.entry.Value.{Value}
use Rattle.log_lines.specs.declared.entry.Value.TheVariants as values
use Rattle.log_lines.specs.Files.{file_name}
use Rattle.log_lines.specs.Newest.{newest, newest_of}

-- the lines of each file of a branch, by its path
abbrev pub Lines : Type 0
Lines = List ℕ → List (List ℕ)

-- ---- files

-- the newest entry of a topic in the file of a kind that isn't a location log
abbrev pub entry_in : LogKind → Lines → Topic → Option Entry
entry_in kind lines topic = newest_of kind (lines (file_name kind)) topic

-- the newest entries of a key's location log
abbrev pub location_entries : Lines → List ℕ → List Entry
location_entries lines key = newest kinds.Location (lines (location_path key))

-- ---- values

abbrev pub value_in : Option Entry → Option Value
value_in None = None
value_in (Some e) = Some e.value

abbrev pub level_in : Option Value → Level
level_in (Some (values.Level l)) = l
level_in _ = levels.Semitrusted

abbrev pub text_in : Option Value → List ℕ
text_in (Some (values.Text t)) = t
text_in _ = []

abbrev pub groups_in : Option Value → List (List ℕ)
groups_in (Some (values.Groups gs)) = gs
groups_in _ = []

abbrev pub number_in : Option Value → ℕ
number_in (Some (values.Number n)) = max n 1
number_in _ = 1

-- ---- what is read of them

-- semitrusted without an entry (git-annex trust)
abbrev pub level : Lines → List ℕ → Level
level lines repo = level_in (value_in (entry_in kinds.Trust lines (topics.Repo repo)))

-- 1 without an entry (git-annex-numcopies; that 0 is read as 1 is own)
abbrev pub numcopies : Lines → ℕ
numcopies lines = number_in (value_in (entry_in kinds.Numcopies lines topics.Whole))

-- the same (git-annex-mincopies)
abbrev pub mincopies : Lines → ℕ
mincopies lines = number_in (value_in (entry_in kinds.Mincopies lines topics.Whole))

-- the pattern that an entry speaks of, with its number; a 0 is read as 1 (own)
abbrev pub pattern_in : Topic → ℕ → List (List ℕ × ℕ)
pattern_in (topics.Pattern glob) number = (glob, number) ∷ []
pattern_in _ number = []

abbrev pub patterns_of : List Entry → List (List ℕ × ℕ)
patterns_of es = flat_map (λ e. pattern_in e.topic (number_in (Some e.value))) es

-- the numbers by path of a kind, in order of pattern (own)
abbrev pub path_numbers : LogKind → Lines → List (List ℕ × ℕ)
path_numbers kind lines = patterns_of (newest kind (lines (file_name kind)))

-- none without an entry (git-annex-group)
abbrev pub groups : Lines → List ℕ → List (List ℕ)
groups lines repo = groups_in (value_in (entry_in kinds.Group lines (topics.Repo repo)))

-- empty without an entry (git-annex-describe)
abbrev pub description : Lines → List ℕ → List ℕ
description lines repo = text_in (value_in (entry_in kinds.Uuid lines (topics.Repo repo)))

-- expressions, each empty without an entry (git-annex-preferred-content)
abbrev pub preferred : Lines → List ℕ → List ℕ
preferred lines repo = text_in (value_in (entry_in kinds.Preferred lines (topics.Repo repo)))

abbrev pub required : Lines → List ℕ → List ℕ
required lines repo = text_in (value_in (entry_in kinds.Required lines (topics.Repo repo)))

abbrev pub group_preferred : Lines → List ℕ → List ℕ
group_preferred lines group = text_in (value_in (entry_in kinds.GroupPreferred lines (topics.Group group)))

abbrev pub is_dead : Level → Bool
is_dead levels.Dead = true
is_dead _ = false

-- X isn't present (own)
abbrev pub is_present : Value → Bool
is_present values.Present = true
is_present _ = false

-- the repository that an entry speaks of
abbrev pub repo_of : Topic → List (List ℕ)
repo_of (topics.Repo repo) = repo ∷ []
repo_of _ = []

abbrev pub repos_of : List Entry → List (List ℕ)
repos_of es = flat_map (λ e. repo_of e.topic) es

abbrev pub are_dead : Lines → List (List ℕ) → Bool
are_dead lines [] = false
are_dead lines (repo ∷ repos) = is_dead (level lines repo)

-- the entry claims that its repository has the key: its status is 1, and the repository isn't dead
abbrev pub is_claim : Lines → Entry → Bool
is_claim lines e = is_present e.value && not (are_dead lines (repo_of e.topic))

-- the repositories that are claimed to have the key, in order
abbrev pub claims : Lines → List ℕ → List (List ℕ)
claims lines key = repos_of (filter (is_claim lines) (location_entries lines key))

abbrev pub is_some : List (List ℕ) → Bool
is_some [] = false
is_some (g ∷ gs) = true

abbrev pub has_groups : Entry → Bool
has_groups e = is_some (groups_in (Some e.value))

-- the repositories that are in at least one group, in order
abbrev pub repos_in_groups : Lines → List (List ℕ)
repos_in_groups lines = repos_of (filter has_groups (newest kinds.Group (lines (file_name kinds.Group))))

-- all that is read of a branch
abbrev pub settings : Lines → Settings
settings lines = record {
  level = level lines;
  numcopies = numcopies lines;
  mincopies = mincopies lines;
  path_numcopies = path_numbers kinds.NumcopiesPath lines;
  path_mincopies = path_numbers kinds.MincopiesPath lines;
  groups = groups lines;
  description = description lines;
  preferred = preferred lines;
  required = required lines;
  group_preferred = group_preferred lines;
  grouped = repos_in_groups lines;
  claims = claims lines;
}
