-- What a drop has read of the logs, as data (own).
use Rattle.std.specs.Prelude.{◌≡◌, ℕ, List, map, slice_get, unwrap_or, Option, Some, None}
use Rattle.annex_base.specs.Settings.{Settings}
use Rattle.drop_proof.specs.declared.rule.Need.{Need}
use Rattle.run_data.specs.Repos.{id_of}
use Rattle.node_model.specs.Evidence as drops
use Rattle.node_model.specs.Evidence.{standing_by}
use Rattle.node_model.specs.Jobs.{Work, target_of}
use Rattle.node_model.specs.Knows.{need_by}
use Rattle.node_model.specs.SetUp.{SetUp}
use Rattle.wanted_expr.specs.Wanted.{required}
use Rattle.state_reads.specs.Standings.{standing_of}
use Rattle.state_reads.specs.declared.standing.Standing.{Standing}

-- the numbers of copies; how the logs see each repository, in order of number; and the expression by which the target requires the
-- content
pub record KnownLogs : Type 0 where
  pub need : Need
  pub standings : List Standing
  pub requires : Option (List ℕ)

-- how they see the repository of this number; one that isn't there is asked
abbrev pub standing_in : KnownLogs → ℕ → drops.Standing
standing_in known c = unwrap_or (slice_get (map standing_of known.standings) c) drops.Asked

-- it is what these settings say for the drop of this job: as `need_of`, `standing_of` and `required_of` say it of what the job has
-- read
pub record AreLogsRead (settings : Settings) (s : SetUp) (w : Work) (known : KnownLogs) : Type 0 where
  pub need : need_by settings (s.paths w.number) ≡ known.need
  pub standing : (c : ℕ) → standing_by settings w.what.key (id_of s.repos c) ≡ standing_in known c
  pub requires : required settings (id_of s.repos (target_of s.number w)) w.what.key (s.paths w.number) ≡ known.requires

-- the identifiers of all repositories, in order of number
abbrev pub ids_of : SetUp → List (List ℕ)
ids_of s = map (λ repo. repo.id) s.repos

-- the expression by which a repository requires the key, where it is one; for private contracts
abbrev pub required_by : Settings → Option (List ℕ) → List ℕ → List (List ℕ) → Option (List ℕ)
required_by settings None key paths = None
required_by settings (Some repo) key paths = required settings repo key paths
