-- A node is whole by what it says of its history.
use Rattle.std.proofs.Common.{◌≡◌, ℕ, Some, sym, ap, ◌∙◌, subst}
use Rattle.std.specs.Prelude.{slice_get}
use Rattle.std.proofs.lemmas.Option.{same_Some}
use Rattle.node_model.specs.SetUp.{SetUp}
use Rattle.fleet_model.specs.Sound.{AreSound}
use Rattle.fleet_model.specs.Nodes.{NodeView}
use Rattle.fleet_model.specs.Stored.{StoreView}
use Rattle.fleet_model.specs.Fleets.{FleetView}
use Rattle.fleet_model.specs.Turns.{IsWhole}
use Rattle.fleet_model.specs.Nodes as nodes

pub seen_whole : {K : Type 0} (tells : K → StoreView) (r : ℕ) (n : NodeView K) (seen f : FleetView K) → seen ≡ f → slice_get seen.nodes r ≡ Some n
    → ((s : SetUp) → nodes.MatchesSetup n.setup s → nodes.IsState s n.parts n.branch n.owed (nodes.told_of (tells n.keeper).contents (tells n.keeper).parts) (nodes.state_of s n.history)) → AreSound n.parts
    → (m : NodeView K) → slice_get f.nodes r ≡ Some m → IsWhole tells m
seen_whole {K} tells r n seen f is at state sound m there =
    subst (IsWhole tells) (same_Some n m (sym at ∙ (ap (λ (x : FleetView K). slice_get x.nodes r) is ∙ there)))
    (record { state = state; sound = sound })
