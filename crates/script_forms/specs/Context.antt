-- What the lines so far have declared, and what words say by it (own).
use Rattle.std.specs.Prelude.{◌≡◌, ℕ, Bool, true, false, ◌&&◌, not, ◌==◌, nat_lt, List, [], ◌∷◌, ◌++◌, length, Option, Some, None, codes, position, if◌then◌else◌, is_some}
use Rattle.std.specs.List.{list_any, find}
use Rattle.std.specs.Option.{option_map}
use Rattle.std.specs.Str.{bytes_eq}
use Rattle.std.specs.Ordering.{nat_cmp, ordering_then}
use Rattle.std.specs.declared.cmp.Ordering.{Ordering}
use Rattle.std.specs.BTreeMap.{is_at}
use Rattle.annex_base.specs.ByteOrder.{text_cmp}
use Rattle.annex_key.specs.Tree.{Entries, key_of}
use Rattle.script_forms.specs.declared.context.Repository.{Repository}

-- what a line is read by: the repositories in order of number, whether a line other than theirs came, the tree and how
-- many paths it has, the contents that lines put, each with its repository's number, the bytes of all contents, and the
-- milliseconds of all waits
pub record Context : Type 0 where
  pub repos : List Repository
  pub closed : Bool
  pub tree : Entries
  pub files : ℕ
  pub placed : List (ℕ × List ℕ)
  pub contents : ℕ
  pub waited : ℕ

-- the number of the repository of this name
abbrev pub number_of_repo : List Repository → List ℕ → Option ℕ
number_of_repo repos name = position (λ d. bytes_eq d.name name) repos

abbrev pub unless : ℕ → Option ℕ → Option ℕ
unless r None = None
unless r (Some other) = if r == other then None else Some other

-- the number of another repository than this one
abbrev pub number_of_other : List Repository → ℕ → List ℕ → Option ℕ
number_of_other repos r name = unless r (number_of_repo repos name)

-- the identifier of the repository of this name
abbrev pub id_of_repo : List Repository → List ℕ → Option (List ℕ)
id_of_repo repos name = option_map (λ d. d.id) (find (λ d. bytes_eq d.name name) repos)

-- whether a repository has the name
abbrev pub has_name : List Repository → List ℕ → Bool
has_name repos name = list_any (λ d. bytes_eq d.name name) repos

-- whether a repository has the identifier
abbrev pub has_id : List Repository → List ℕ → Bool
has_id repos id = list_any (λ d. bytes_eq d.id id) repos

-- the order of contents by repository and then by key
abbrev pub placed_cmp : (ℕ × List ℕ) → (ℕ × List ℕ) → Ordering
placed_cmp x y = ordering_then (nat_cmp x.0 y.0) (text_cmp x.1 y.1)

-- whether a line put the content of the key at the repository
abbrev pub is_placed : Context → ℕ → List ℕ → Bool
is_placed context r key = list_any (is_at (placed_cmp (r, key))) context.placed

-- whether the path stands in the tree
abbrev pub has_path : Entries → List ℕ → Bool
has_path tree path = is_some (key_of tree path)

-- how many paths the tree has more with this one
abbrev pub new_paths : Entries → List ℕ → ℕ
new_paths tree path = if has_path tree path then 0 else 1
