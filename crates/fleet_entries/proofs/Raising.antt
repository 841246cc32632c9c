-- A node is raised before a call, and the rest is as it was.
use Rattle.std.proofs.Common.{◌≡◌, ◌≢◌, ℕ, ◌<◌, ◌^◌, List, Some, length, refl, sym, ap, ◌∙◌, subst}
use Rattle.std.specs.Prelude.{max, reverse, slice_get}
use Rattle.std.proofs.lemmas.Option.{same_Some}
use Rattle.run_data.specs.declared.run.Run.{Run}
use Rattle.fleet_model.specs.Nodes.{NodeView}
use Rattle.fleet_model.specs.Stored.{StoreView}
use Rattle.run_model.specs.Past.{now}
use Rattle.driver_model.specs.Driver.{newest_count}
use Rattle.fleet_model.specs.Joined.{AtNode}
use Rattle.fleet_model.specs.Fleets.{FleetView}
use Rattle.fleet_model.specs.Turns.{IsWhole}
use Rattle.fleet_entries.specs.Telling.{Raises}

-- a node was raised, and the rest is as it was
pub raises_so : {K : Type 0} (tells : K → StoreView) (r had time count : ℕ) (was : FleetView K) (ns up : List (NodeView K)) (run : Run) (m : NodeView K) → record { nodes = ns; run = run } ≡ was
    → time ≡ now (reverse was.run.entries) → count ≡ newest_count (reverse was.run.entries) → length was.run.entries < 2 ^ 30
    → AtNode r ns up (λ x y. y ≡ record x { time = max x.time time; count = max x.count count }) → ((q : ℕ) → q ≢ r → slice_get up q ≡ slice_get ns q) → length up ≡ length ns
    → ((y : NodeView K) → slice_get up r ≡ Some y → IsWhole tells y) → slice_get up r ≡ Some m → had ≡ length m.history → Raises tells r had was (record { nodes = up; run = run })
raises_so {K} tells r had time count was ns up run m is time_is count_is few node others many whole at had_is =
    subst (λ (f : FleetView K). Raises tells r had f (record { nodes = up; run = run })) is (record {
      node = λ x y at_x at_y. node x y at_x at_y ∙ (λ i. record x { time = max x.time (time_then i); count = max x.count (count_then i) });
      whole = λ x y at_x at_y. whole y at_y;
      entries = λ x y at_x at_y. had_is ∙ (ap (λ (z : NodeView K). length z.history) (same_Some m y (sym at ∙ at_y)) ∙ ap (λ (z : NodeView K). length z.history) (node x y at_x at_y));
      others = others;
      count = many;
      run = refl;
      few = subst (λ (f : FleetView K). length f.run.entries < 2 ^ 30) (sym is) few;
    })
  where
    time_then : time ≡ now (reverse run.entries)
    time_then = time_is ∙ ap (λ (f : FleetView K). now (reverse f.run.entries)) (sym is)

    count_then : count ≡ newest_count (reverse run.entries)
    count_then = count_is ∙ ap (λ (f : FleetView K). newest_count (reverse f.run.entries)) (sym is)
