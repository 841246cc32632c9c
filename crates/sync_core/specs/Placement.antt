-- Where a content is and where it is wanted, by the numbers of repositories, for private contracts.
use Rattle.std.specs.Prelude.{◌≡◌, ℕ, Bool, not, ◌==◌, List, filter, map}
use Rattle.trust_groups.specs.Reads.{Indices}
use Rattle.trust_groups.specs.View.{settings_of}
use Rattle.wanted_rules.specs.Plan.{lacks, repo_at, spares}
use Rattle.wanted_rules.specs.Reads.{Wishing}

-- a key with its paths, the repositories before which it is, in order of number, and the settings that say what these have and want
pub record Placed : Type 0 where
  pub indices : Indices
  pub repos : List (List ℕ)
  pub key : List ℕ
  pub paths : List (List ℕ)

-- each of the repositories, and the settings by which its wishes are told
abbrev pub wishes_of : Indices → List (List ℕ) → List Wishing
wishes_of indices repos = map (λ repo. record { indices = indices; repo = repo }) repos

-- the wishes are those of the repositories, and these are claimed to have the key
pub record IsLookedUp (indices : Indices) (repos : List (List ℕ)) (wishes : List Wishing) (key : List ℕ) (claimed : List (List ℕ)) : Type 0 where
  pub are_wishes : wishes ≡ wishes_of indices repos
  pub are_claimed : claimed ≡ (settings_of indices).claims key

-- the repository of this number isn't claimed to have it, and wants it
abbrev pub lacks_at : Placed → ℕ → Bool
lacks_at p n = lacks (settings_of p.indices) p.key p.paths (repo_at p.repos n)

-- it is, and with its copy assumed gone neither wants nor requires it
abbrev pub spares_at : Placed → ℕ → Bool
spares_at p n = spares (settings_of p.indices) p.key p.paths (repo_at p.repos n)

-- the numbers without that of the own repository
abbrev pub peers_among : ℕ → List ℕ → List ℕ
peers_among here numbers = filter (λ n. not (n == here)) numbers
