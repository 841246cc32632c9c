-- What callers see of the levels and settings that were read.
use Rattle.std.specs.Prelude.{ℕ, if◌then◌else◌, List, Option, Some, None}
use Rattle.annex_base.specs.Lists.{Member}
use Rattle.annex_base.specs.Settings.{Settings}
use Rattle.annex_base.specs.declared.kinds.Level.{Level}
use Rattle.log_lines.specs.declared.entry.Entry.{Entry}
use Rattle.log_lines.specs.declared.entry.LogKind.{LogKind}
use Rattle.log_lines.specs.declared.entry.LogKind.TheVariants as kinds
use Rattle.log_lines.specs.declared.entry.Topic.TheVariants as topics
use Rattle.log_lines.specs.Files.{file_name}
use Rattle.trust_groups.specs.declared.levels.Levels.{Levels}
use Rattle.hash_dirs.specs.LogPath.{location_path}
use Rattle.wanted_expr.specs.Formula.{Formula}
use Rattle.wanted_expr.specs.Wanted.{is_text}
use Rattle.trust_groups.specs.Kept.{level_among, groups_among, text_among, number_among, claims_among, grouped_among}
use Rattle.trust_groups.specs.Reads.{Indices, entries_at}
use Rattle.trust_groups.specs.Settings.{patterns_of}

-- the level of each repository
abbrev pub level_of : Levels → List ℕ → Level
level_of levels = level_among levels.index.entries

-- the newest entries of the file of this kind, which is no location log
abbrev pub entries_of : Indices → LogKind → List Entry
entries_of indices kind = entries_at indices (file_name kind)

-- the settings
abbrev pub settings_of : Indices → Settings
settings_of indices = record {
  level = level_among (entries_of indices kinds.Trust);
  numcopies = number_among (entries_of indices kinds.Numcopies);
  mincopies = number_among (entries_of indices kinds.Mincopies);
  path_numcopies = patterns_of (entries_of indices kinds.NumcopiesPath);
  path_mincopies = patterns_of (entries_of indices kinds.MincopiesPath);
  groups = groups_among (entries_of indices kinds.Group);
  description = λ repo. text_among (entries_of indices kinds.Uuid) (topics.Repo repo);
  preferred = λ repo. text_among (entries_of indices kinds.Preferred) (topics.Repo repo);
  required = λ repo. text_among (entries_of indices kinds.Required) (topics.Repo repo);
  group_preferred = λ group. text_among (entries_of indices kinds.GroupPreferred) (topics.Group group);
  grouped = grouped_among (entries_of indices kinds.Group);
  claims = λ key. claims_among (level_among (entries_of indices kinds.Trust)) (entries_at indices (location_path key));
}

-- what the text of an expression says; an empty one says nothing
abbrev pub text_read : (List ℕ → Formula) → List ℕ → Option Formula
text_read read text = if is_text text then Some (read text) else None

-- a repository is in the group
abbrev pub IsGroupOfSome : Settings → List ℕ → Type 0
IsGroupOfSome s group = (repo : List ℕ) × Member group (s.groups repo)
