-- Names of repositories in texts, and lists of them (own).
use Rattle.std.specs.Prelude.{ℕ, List, [], codes, Option, Some, None, slice_get}
use Rattle.run_data.specs.declared.run.RepoView.{RepoView}
use Rattle.run_text.specs.Words.{joined_text}

abbrev pub name_in : Option RepoView → List ℕ
name_in None = []
name_in (Some repo) = repo.name

-- the name of a repository
abbrev pub name_of : List RepoView → ℕ → List ℕ
name_of repos r = name_in (slice_get repos r)

-- the name of a repository, or a dash where there is none
abbrev pub name_or_dash : List RepoView → Option ℕ → List ℕ
name_or_dash repos None = codes "-"
name_or_dash repos (Some r) = name_of repos r

abbrev pub names : List RepoView → List ℕ → List ℕ
names repos rs = joined_text 44 (name_of repos) rs
