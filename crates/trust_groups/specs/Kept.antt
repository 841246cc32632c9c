-- What is read of a branch, of the newest entries of its files.
use Rattle.std.specs.Prelude.{ℕ, Bool, false, not, ◌&&◌, List, [], ◌∷◌, filter}
use Rattle.annex_base.specs.declared.kinds.Level.{Level}
use Rattle.log_lines.specs.declared.entry.Entry.{Entry}
use Rattle.log_lines.specs.declared.entry.Topic.{Topic}
use Rattle.log_lines.specs.declared.entry.Topic.TheVariants as topics
use Rattle.log_lines.specs.Newest.{entry_at}
use Rattle.trust_groups.specs.Settings.{value_in, level_in, text_in, groups_in, number_in, is_dead, is_present, repo_of, repos_of, has_groups}

abbrev pub level_among : List Entry → List ℕ → Level
level_among es repo = level_in (value_in (entry_at es (topics.Repo repo)))

abbrev pub groups_among : List Entry → List ℕ → List (List ℕ)
groups_among es repo = groups_in (value_in (entry_at es (topics.Repo repo)))

abbrev pub text_among : List Entry → Topic → List ℕ
text_among es topic = text_in (value_in (entry_at es topic))

abbrev pub number_among : List Entry → ℕ
number_among es = number_in (value_in (entry_at es topics.Whole))

abbrev pub any_dead : (List ℕ → Level) → List (List ℕ) → Bool
any_dead level [] = false
any_dead level (repo ∷ repos) = is_dead (level repo)

abbrev pub claims_by : (List ℕ → Level) → Entry → Bool
claims_by level e = is_present e.value && not (any_dead level (repo_of e.topic))

-- the repositories that one of the entries says to have the key, and that aren't dead
abbrev pub claims_among : (List ℕ → Level) → List Entry → List (List ℕ)
claims_among level es = repos_of (filter (claims_by level) es)

-- the repositories of which one of the entries says a group
abbrev pub grouped_among : List Entry → List (List ℕ)
grouped_among es = repos_of (filter has_groups es)
