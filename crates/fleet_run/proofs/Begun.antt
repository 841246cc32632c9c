-- A fleet before the first line.
use Rattle.std.proofs.Common.{◌≡◌, ℕ, ◌≤◌, arith, true, List, [], Some, All, length, refl, sym, ap, ◌∙◌, subst}
use Rattle.std.specs.Prelude.{◌↔◌, slice_get}
use Rattle.std.proofs.lemmas.Option.{get_or_from_slice_get, slice_get_within}
use Rattle.annex_base.specs.Lists.{Each}
use Rattle.key_verify.specs.Matching.{MatchesKey}
use Rattle.run_data.specs.Repos.{IsSetUp}
use Rattle.run_data.specs.declared.run.RepoView.{RepoView}
use Rattle.run_data.specs.declared.run.Run.{Run}
use Rattle.fleet_entries.specs.Nodes.{NodeView}
use Rattle.fleet_entries.specs.Stored.{StoreView}
use Rattle.fleet_entries.specs.Joined.{AreNew}
use Rattle.driver_model.specs.Driver.{DriverInput, at_first}
use Rattle.driver_model.specs.Driving.{run_with}
use Rattle.driver_model.specs.Sound.{IsSound}
use Rattle.driver_script.specs.Inputs.{matches}
use Rattle.fleet_entries.specs.Fleets.{FleetView, HasCome}
use Rattle.fleet_entries.specs.Matches.{DecidesMatches}
use Rattle.fleet_entries.specs.Stores.{IsStoreOf}
use Rattle.fleet_entries.specs.AtDriver.{IsDrivenWithin, IsAtDriver}

-- what no repository has, none has
first_of_each : (r : ℕ) (v : StoreView) → IsStoreOf at_first 0 v → IsStoreOf at_first r v
first_of_each r v first = record { contents = first.contents; parts = first.parts; failing = first.failing }

-- the run before the first line
abbrev first_run : List RepoView → Run
first_run repos = record { repos = repos; entries = []; tree = []; marks = [] }

pub begins_so : {K : Type 0} (tells : K → StoreView) (repos : List RepoView) (keepers : List K) (ns : List (NodeView K)) (run : Run)
    → ((tells : K → StoreView) (g : DriverInput) (keepers : List K) (f : FleetView K) → AreNew g.repos keepers f.nodes → length keepers ≡ length g.repos
    → ((r : ℕ) (keeper : K) → slice_get keepers r ≡ Some keeper → IsStoreOf at_first r (tells keeper)) → f.run ≡ run_with g at_first → IsSound g at_first → HasCome tells g at_first f)
    → ((g : DriverInput) → Each IsSetUp g.repos → IsSound g at_first) → AreNew repos keepers ns → length keepers ≡ length repos → All (λ k. IsStoreOf at_first 0 (tells k)) keepers → Each IsSetUp repos → run ≡ record { repos = repos; entries = []; tree = []; marks = [] }
    → (g : DriverInput) → g.repos ≡ repos → DecidesMatches g → IsAtDriver tells g at_first (record { nodes = ns; run = run })
begins_so {K} tells repos keepers ns run law sound new count stores set_up is g are decides = record {
  come = law tells g keepers (record { nodes = ns; run = run }) (subst (λ (rs : List RepoView). AreNew rs keepers ns) (sym are) new) (count ∙ ap length (sym are))
      (λ r keeper at. first_of_each r (tells keeper) (subst (λ k. IsStoreOf at_first 0 (tells k)) (get_or_from_slice_get keepers r keeper keeper at) (stores r keeper (slice_get_within keepers r keeper at))))
      (is ∙ ap first_run (sym are)) (sound g (subst (Each IsSetUp) (sym are) set_up));
  decides = decides;
}

-- so some driver is there, which has made no entry
pub driven_first : {K : Type 0} (tells : K → StoreView) (most : ℕ) (repos : List RepoView) (f : FleetView K) → ((key bytes : List ℕ) → (matches key bytes ≡ true) ↔ MatchesKey key bytes)
    → ((g : DriverInput) → g.repos ≡ repos → DecidesMatches g → IsAtDriver tells g at_first f) → length repos ≤ 16 → IsDrivenWithin tells most f
driven_first tells most repos f decides stands few = record {
  given = record { repos = repos; matches = matches };
  driver = at_first;
  stands = stands (record { repos = repos; matches = matches }) refl (record { decides = decides });
  repos = few;
  few = record { waits = omega arith; count = omega arith };
}
