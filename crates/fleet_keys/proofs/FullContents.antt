-- A content that was placed met a full history: the driver's step comes to an entry of that node, or asks for none.
use Rattle.std.proofs.Common.{◌≡◌, ℕ, ◌<◌, ◌≤◌, ◌^◌, ◌⊎◌, inl, inr, List, Some, length, sym, ◌∙◌, subst, arith}
use Rattle.std.specs.Prelude.{IfErr, OnOk, slice_get}
use Rattle.std.proofs.lemmas.Option.{same_Some}
use Rattle.annex_base.specs.declared.kinds.Call.{Call}
use Rattle.annex_base.proofs.Lists.{slice_get-within}
use Rattle.run_data.specs.Histories.{most_entries}
use Rattle.driver_model.specs.Driver.{Driver, DriverInput, set_up_of}
use Rattle.driver_model.specs.Limits.{StopsAtFull, count_of, within_limit}
use Rattle.driver_model.specs.Scripts.{IsContent}
use Rattle.driver_model.specs.ScriptSteps.{has}
use Rattle.fleet_entries.specs.Calls.{MeetsFullBehind, StopsAt, node_at, to_place}
use Rattle.fleet_entries.specs.Nodes.{IsState, NodeView, state_of, told_of}
use Rattle.fleet_entries.specs.Refusals.{RefusesSo}
use Rattle.fleet_entries.specs.Stored.{StoreView}
use Rattle.fleet_entries.specs.Fleets.{FleetView, HasCome}
use Rattle.fleet_entries.specs.Stopping.{OthersAreFew}
use Rattle.fleet_entries.specs.Steps.{OneGoesOn, with_newest}
use Rattle.fleet_entries.specs.AtDriver.{EndsAtFull, WaitsForRoom}
use Rattle.fleet_entries.specs.Telling.{AreFew}
use Rattle.fleet_entries.specs.declared.NodeRefused.TheVariants as refusals
use Rattle.fleet_entries.proofs.Ended.{Answer, IsEnded}
use Rattle.fleet_entries.proofs.Called.{IsCalled}
use Rattle.fleet_keys.proofs.Placing.{PlacesContent}
use Rattle.fleet_keys.proofs.Growing.{come_grows}
use Rattle.fleet_keys.proofs.Unasked.{HadRoom, IsUnasked, fault_grew, waits}
use Rattle.fleet_entries.proofs.Full.{ends_at, ends_for}

-- ---- contents

-- the law of a content that wasn't asked for
abbrev pub AskStops : {K : Type 0} → (K → StoreView) → Type 0
AskStops {K} tells = (g : DriverInput) (d : Driver) (r : ℕ) (n : NodeView K) (was : FleetView K) → HasCome tells g d was → slice_get was.nodes r ≡ Some n → OthersAreFew r was.nodes
    → (key bytes : List ℕ) → length n.history ≡ most_entries → (count_of d.past r ≡ most_entries) × (within_limit g (has g r key bytes d).past ≡ d.past)

-- the law of one that was placed, without the line that says so
abbrev pub ContentStops : {K : Type 0} → (K → StoreView) → Type 0
ContentStops {K} tells = (g : DriverInput) (d : Driver) (r : ℕ) (n m : NodeView K) (was after : FleetView K) → HasCome tells g d was → OneGoesOn r n m was after → OthersAreFew r was.nodes
    → m.time ≤ 1000000000000 → m.count < 2 ^ 62 → (key bytes : List ℕ) → IsContent key bytes
    → IsState (set_up_of g d r) n.parts n.branch n.owed (told_of (tells n.keeper).contents (tells n.keeper).parts) (state_of (set_up_of g d r) n.history)
    → MeetsFullBehind key bytes (tells n.keeper).contents (tells n.keeper).failing (tells m.keeper).failing (with_newest d n) m → length bytes < 2 ^ 62 → StopsAtFull g r (has g r key bytes d) after.run

-- how far a call that places a content came at a node, if not to its beginning alone: to the line
abbrev pub PlaceMeets : {K : Type 0} → (K → StoreView) → List ℕ → List ℕ → NodeView K → NodeView K → Type 0
PlaceMeets tells key bytes n m = MeetsFullBehind key bytes (tells n.keeper).contents (tells n.keeper).failing (tells m.keeper).failing n m

-- a call whose node stopped in one of two ways has stopped in one of them
pub one_way : {K : Type 0} (tells : K → StoreView) (r : ℕ) (was up after : FleetView K) (P Q : NodeView K → NodeView K → Type 0) → r < length was.nodes → IsCalled tells r was up after (λ n m. P n m ⊎ Q n m)
    → IsCalled tells r was up after P ⊎ IsCalled tells r was up after Q
one_way {K} tells r was up after P Q there call =
    let p : (n : NodeView K) × (slice_get up.nodes r ≡ Some n) = slice_get-within up.nodes r (subst (λ (c : ℕ). r < c) (sym call.raises.count) there) in
    let m : (n : NodeView K) × (slice_get call.called.nodes r ≡ Some n) = slice_get-within call.called.nodes r (subst (λ (c : ℕ). r < c) (sym (call.count ∙ call.raises.count)) there) in
    go p m (call.holds p.0 m.0 p.1 m.1)
  where
    the_same : (R : NodeView K → NodeView K → Type 0) (p : (n : NodeView K) × (slice_get up.nodes r ≡ Some n)) (m : (n : NodeView K) × (slice_get call.called.nodes r ≡ Some n)) → R p.0 m.0
        → IsCalled tells r was up after R
    the_same R p m holds = record {
      had = call.had;
      called = call.called;
      raises = call.raises;
      run = call.run;
      others = call.others;
      count = call.count;
      holds = λ x y at_x at_y. subst (λ (a : NodeView K). R a y) (same_Some p.0 x (sym p.1 ∙ at_x)) (subst (λ (b : NodeView K). R p.0 b) (same_Some m.0 y (sym m.1 ∙ at_y)) holds);
      told = call.told;
    }

    go : (p : (n : NodeView K) × (slice_get up.nodes r ≡ Some n)) (m : (n : NodeView K) × (slice_get call.called.nodes r ≡ Some n)) → P p.0 m.0 ⊎ Q p.0 m.0
        → IsCalled tells r was up after P ⊎ IsCalled tells r was up after Q
    go p m (inl h) = inl (the_same P p m h)
    go p m (inr h) = inr (the_same Q p m h)

placed : {K : Type 0} (tells : K → StoreView) (r : ℕ) (was up after : FleetView K) (key bytes : List ℕ) → ContentStops tells → r < length was.nodes → IsCalled tells r was up after (PlaceMeets tells key bytes) → AreFew after.nodes
    → IsContent key bytes → length bytes < 2 ^ 62 → EndsAtFull tells r (λ g d. has g r key bytes d) was after
placed {K} tells r was up after key bytes law there call few content small =
    ends_at tells (λ g d. has g r key bytes d) r was up after (PlaceMeets tells key bytes) there call few
    (λ g d come others s.
    law g d r s.before s.left was after come s.goes others s.early s.counted key bytes content (s.whole.state (set_up_of g d r) (come.each r s.before s.goes.before).setup) s.holds small)

pub has_ends : {K : Type 0} (tells : K → StoreView) (r : ℕ) (was up after : FleetView K) (key bytes : List ℕ) → AskStops tells → ContentStops tells → r < length was.nodes
    → IsCalled tells r was up after (λ n m. IsUnasked n m ⊎ PlaceMeets tells key bytes n m) → AreFew after.nodes → IsContent key bytes → length bytes < 2 ^ 62
    → EndsAtFull tells r (λ g d. has g r key bytes d) was after ⊎ WaitsForRoom tells r (λ g d. has g r key bytes d) was after
has_ends {K} tells r was up after key bytes ask law there call few content small = go (one_way tells r was up after IsUnasked (PlaceMeets tells key bytes) there call)
  where
    go : IsCalled tells r was up after IsUnasked ⊎ IsCalled tells r was up after (PlaceMeets tells key bytes)
        → EndsAtFull tells r (λ g d. has g r key bytes d) was after ⊎ WaitsForRoom tells r (λ g d. has g r key bytes d) was after
    go (inl unasked) = inr (waits tells (λ g d. has g r key bytes d) r was up after (λ g d n come at others full. ask g d r n was come at others key bytes full) there unasked few)
    go (inr came) = inl (placed tells r was up after key bytes law there came few content small)

-- the same, of the repository that was refused, where the node was given a copy of the bytes
pub has_ends_so : {K : Type 0} (tells : K → StoreView) (r q : ℕ) (was up after : FleetView K) (key bytes bytes' : List ℕ) → q ≡ r → bytes' ≡ bytes → AskStops tells → ContentStops tells → r < length was.nodes
    → IsCalled tells r was up after (λ n m. IsUnasked n m ⊎ PlaceMeets tells key bytes' n m) → AreFew after.nodes → IsContent key bytes → length bytes < 2 ^ 62
    → EndsAtFull tells q (λ g d. has g r key bytes d) was after ⊎ ((q ≡ r) × WaitsForRoom tells r (λ g d. has g r key bytes d) was after)
has_ends_so {K} tells r q was up after key bytes bytes' is same ask law there call few content small =
    go (has_ends tells r was up after key bytes ask law there (subst (λ (b : List ℕ). IsCalled tells r was up after (λ n m. IsUnasked n m ⊎ PlaceMeets tells key b n m)) same call) few content small)
  where
    go : EndsAtFull tells r (λ g d. has g r key bytes d) was after ⊎ WaitsForRoom tells r (λ g d. has g r key bytes d) was after
        → EndsAtFull tells q (λ g d. has g r key bytes d) was after ⊎ ((q ≡ r) × WaitsForRoom tells r (λ g d. has g r key bytes d) was after)
    go (inl ends) = inl (ends_for tells r q (λ g d. has g r key bytes d) was after is ends)
    go (inr waits) = inr (is, waits)

-- ---- room

grew : {K : Type 0} (call : Call) (key bytes : List ℕ) (n m : NodeView K) → RefusesSo refusals.StoreFault call (node_at call key bytes n) m → length n.history < length m.history
grew {K} call key bytes n m refused =
    above (length n.history) (length (node_at call key bytes n).history) (length m.history) (come_grows call key bytes n) (fault_grew call (node_at call key bytes n) m refused)
  where
    above : (a b c : ℕ) → a ≤ b → b < c → a < c
    above a b c more less = omega (arith, more, less)

pub had_room : {K : Type 0} (tells : K → StoreView) (key bytes : List ℕ) (done : Answer) (n m : NodeView K) → IsEnded done → OnOk done (length n.history < most_entries) → PlacesContent tells key bytes done n m → HadRoom n m
had_room tells key bytes done n m (inl e) room places = inl (subst (λ (a : Answer). OnOk a (length n.history < most_entries)) e room)
had_room tells key bytes done n m (inr e) room places =
    let stops = subst (λ (a : Answer). IfErr a (λ x. StopsAt to_place key bytes (tells n.keeper).contents (tells m.keeper).contents (tells n.keeper).parts (tells m.keeper).parts (tells n.keeper).failing (tells m.keeper).failing x n m)) e places.stops in
    inr (grew stops.call key bytes n m stops.refused)
