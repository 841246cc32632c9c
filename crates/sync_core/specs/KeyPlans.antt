-- The plan for some keys of a tree, for private contracts.
use Rattle.std.specs.Prelude.{ℕ, List, flat_map}
use Rattle.annex_key.specs.Tree.{Entries, paths_of}
use Rattle.trust_groups.specs.Reads.{Indices}
use Rattle.trust_groups.specs.View.{settings_of}
use Rattle.wanted_rules.specs.declared.action.Action.{Action}
use Rattle.wanted_rules.specs.Plan.{plan_of}

-- what is to be done for one key after the other
abbrev pub plan_of_keys : Indices → Entries → ℕ → List (List ℕ) → List (List ℕ) → List Action
plan_of_keys indices tree here repos keys = flat_map (λ key. plan_of (settings_of indices) repos here key (paths_of tree key)) keys
