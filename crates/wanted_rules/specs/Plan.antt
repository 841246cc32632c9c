-- What a repository is to do so that it and its peers have the contents that they want, and no others (own).
use Rattle.std.specs.Prelude.{◌≡◌, ℕ, Bool, true, false, not, ◌&&◌, ◌||◌, ◌==◌, if◌then◌else◌, List, [], ◌∷◌, ◌++◌, bytes_eq, filter, flat_map, length, map, slice_get, unwrap_or}
use Rattle.std.specs.List.{list_any, range_with_len}
use Rattle.annex_base.specs.Settings.{Settings}
use Rattle.annex_key.specs.Tree.{Entries, distinct_keys, paths_of}
use Rattle.wanted_expr.specs.Wanted.{is_required, required, wants}
use Rattle.wanted_rules.specs.declared.action.Action.{Action}
use Rattle.wanted_rules.specs.declared.action.Action.TheVariants.{Get, Put, DropHere, DropFrom}

-- a repository is claimed to have the key
abbrev pub has_key : Settings → List ℕ → List ℕ → Bool
has_key s key repo = list_any (bytes_eq repo) (s.claims key)

-- it isn't, and wants it
abbrev pub lacks : Settings → List ℕ → List (List ℕ) → List ℕ → Bool
lacks s key paths repo = not (has_key s key repo) && wants s repo key paths false

-- it is, and with its copy assumed gone neither wants nor requires it
abbrev pub spares : Settings → List ℕ → List (List ℕ) → List ℕ → Bool
spares s key paths repo = has_key s key repo && not (wants s repo key paths true || is_required s repo key paths)

abbrev pub repo_at : List (List ℕ) → ℕ → List ℕ
repo_at repos n = unwrap_or (slice_get repos n) []

-- the peers of a repository, in order of number
abbrev pub peers : List (List ℕ) → ℕ → List ℕ
peers repos here = filter (λ n. not (n == here)) (range_with_len 0 (length repos))

abbrev pub only_if : Bool → Action → List Action
only_if b action = if b then action ∷ [] else []

-- for one key: the own repository gets it, peers are given it, and then it is dropped here and from peers
abbrev pub plan_of : Settings → List (List ℕ) → ℕ → List ℕ → List (List ℕ) → List Action
plan_of s repos here key paths =
    only_if (lacks s key paths (repo_at repos here)) (Get key)
    ++ map (λ peer. Put key peer) (filter (λ peer. lacks s key paths (repo_at repos peer)) (peers repos here))
    ++ only_if (spares s key paths (repo_at repos here)) (DropHere key)
    ++ map (λ peer. DropFrom key peer) (filter (λ peer. spares s key paths (repo_at repos peer)) (peers repos here))

-- for each key of the tree, in order of its first path
unfoldable pub plan : Settings → Entries → ℕ → List (List ℕ) → List Action
plan s tree here repos = flat_map (λ key. plan_of s repos here key (paths_of tree key)) (distinct_keys tree)

-- two settings give the same wants, requirements and plans
pub record PlanAlike (s t : Settings) : Type 0 where
  pub wants_alike : (repo key : List ℕ) (paths : List (List ℕ)) (gone : Bool) → wants s repo key paths gone ≡ wants t repo key paths gone
  pub required_alike : (repo key : List ℕ) (paths : List (List ℕ)) → required s repo key paths ≡ required t repo key paths
  pub plan_alike : (tree : Entries) (here : ℕ) (repos : List (List ℕ)) → plan s tree here repos ≡ plan t tree here repos
