-- What a job has read of the logs (own).
use Rattle.std.specs.Prelude.{ℕ, List, length, map, slice_get, unwrap_or, Option}
use Rattle.annex_base.specs.Settings.{Settings}
use Rattle.drop_proof.specs.declared.rule.Need.{Need}
use Rattle.node_model.specs.Clocks.{ClockSet, runs_on}
use Rattle.node_model.specs.Evidence as drops
use Rattle.node_model.specs.Evidence.{standing_by}
use Rattle.node_model.specs.Knows.{Reading}
use Rattle.drop_worker.specs.Standings.{standing_of}
use Rattle.drop_phases.specs.declared.here.Standing.{Standing}
use Rattle.node_drops.specs.Places.{PlaceView}

-- the numbers of copies; how the logs see each repository, in order of number; and the expression by which the target requires the
-- content
pub record KnownLogs : Type 0 where
  pub need : Need
  pub standings : List Standing
  pub requires : Option (List ℕ)

-- how they see the repository of this number; none stands there as one that is asked
abbrev pub standing_at : List drops.Standing → ℕ → drops.Standing
standing_at standings c = unwrap_or (slice_get standings c) drops.Asked

abbrev pub standing_in : KnownLogs → ℕ → drops.Standing
standing_in known = standing_at (map standing_of known.standings)

-- how settings see each of these repositories, for a job on this key
abbrev pub standings_by : Settings → List ℕ → List (List ℕ) → List drops.Standing
standings_by s key ids = map (standing_by s key) ids

-- what a job that has read this reads in a step
abbrev pub reading_of : PlaceView → ClockSet → KnownLogs → Reading
reading_of p clock known = record { repo = p.number; count = length p.ids; clock = runs_on clock; need = known.need; standing = standing_in known; requires = known.requires }
