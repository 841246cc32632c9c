-- One call of a node of a fleet: the driver's step follows.
use Rattle.std.proofs.Common.{◌≡◌, ◌≢◌, ℕ, ◌<◌, ◌≤◌, ◌^◌, Bool, true, false, List, ◌++◌, Some, drop, length, refl, sym, ap, ◌∙◌, subst}
use Rattle.std.specs.Prelude.{◌==◌, max, reverse, slice_get}
use Rattle.std.proofs.lemmas.List.{reverse-reverse}
use Rattle.std.proofs.lemmas.Option.{slice_get_within}
use Rattle.std.proofs.lemmas.Bool.{eqb-false, eqb-true}
use Rattle.annex_base.proofs.Lists.{slice_get-within}
use Rattle.run_data.specs.Histories.{most_entries}
use Rattle.run_data.specs.declared.entry.Entry.{Entry}
use Rattle.run_data.specs.declared.run.Run.{Run}
use Rattle.run_model.specs.Past.{now}
use Rattle.driver_model.specs.Driver.{Driver, DriverInput, newest_count}
use Rattle.driver_model.specs.Scripts.{IsKnown}
use Rattle.fleet_model.specs.Nodes.{NodeView}
use Rattle.fleet_model.specs.Stored.{StoreView}
use Rattle.fleet_model.specs.Joined.{AtNode}
use Rattle.fleet_model.specs.Fleets.{FleetView, HasCome}
use Rattle.fleet_model.specs.Steps.{OneGoesOn, with_newest}
use Rattle.fleet_model.specs.Turns.{IsWhole}
use Rattle.fleet_entries.specs.AtDriver.{GoesOn}
use Rattle.fleet_entries.specs.Telling.{Raises, Tells}

-- The fleet was raised; a call made this of its node of r, and left the others and the run as they were; and then it was told.
pub record IsCalled {K : Type 0} (tells : K → StoreView) (r : ℕ) (was up after : FleetView K) (Holds : NodeView K → NodeView K → Type 0) : Type 0 where
  pub had : ℕ
  pub called : FleetView K
  pub raises : Raises tells r had was up
  pub run : called.run ≡ up.run
  pub others : (q : ℕ) → q ≢ r → slice_get called.nodes q ≡ slice_get up.nodes q
  pub count : length called.nodes ≡ length up.nodes
  pub holds : AtNode r up.nodes called.nodes Holds
  pub told : Tells tells r had called after

-- what the laws of lines ask of such a call
pub record IsStep {K : Type 0} (tells : K → StoreView) (d : Driver) (r : ℕ) (was after : FleetView K) (Holds : NodeView K → NodeView K → Type 0) : Type 0 where
  pub before : NodeView K
  pub left : NodeView K
  pub goes : OneGoesOn r before left was after
  pub holds : Holds (with_newest d before) left
  pub whole : IsWhole tells (with_newest d before)
  pub early : left.time ≤ 1000000000000
  pub counted : left.count < 2 ^ 62
  pub few : length left.history ≤ most_entries

-- the run with these entries behind its own
abbrev pub with_more : Run → List Entry → Run
with_more run more = record run { entries = run.entries ++ more }

-- the past is that of the run
pub past_of : {K : Type 0} (tells : K → StoreView) (g : DriverInput) (d : Driver) (f : FleetView K) → HasCome tells g d f → reverse f.run.entries ≡ d.past
past_of tells g d f come = ap (λ run. reverse run.entries) come.run ∙ reverse-reverse d.past

-- the node that was raised
pub raised_is : {K : Type 0} (tells : K → StoreView) (g : DriverInput) (d : Driver) (r had : ℕ) (was up : FleetView K) (n p : NodeView K) → HasCome tells g d was → Raises tells r had was up
    → slice_get was.nodes r ≡ Some n → slice_get up.nodes r ≡ Some p → p ≡ with_newest d n
raised_is {K} tells g d r had was up n p come raises at_n at_p =
    subst (λ (past : List Entry). p ≡ record n { time = max n.time (now past); count = max n.count (newest_count past) }) (past_of tells g d was come) (raises.node n p at_n at_p)

pub is_step : {K : Type 0} (tells : K → StoreView) (g : DriverInput) (d : Driver) (r : ℕ) (was up after : FleetView K) (Holds : NodeView K → NodeView K → Type 0) → HasCome tells g d was
    → r < length was.nodes → IsCalled tells r was up after Holds → IsStep tells d r was after Holds
is_step {K} tells g d r was up after Holds come there call =
    let found : (n : NodeView K) × (slice_get was.nodes r ≡ Some n) = slice_get-within was.nodes r there in
    let found_up : (n : NodeView K) × (slice_get up.nodes r ≡ Some n) = slice_get-within up.nodes r (subst (λ (c : ℕ). r < c) (sym call.raises.count) there) in
    let found_left : (n : NodeView K) × (slice_get call.called.nodes r ≡ Some n) = slice_get-within call.called.nodes r (subst (λ (c : ℕ). r < c) (sym (call.count ∙ call.raises.count)) there) in
    let n : NodeView K = found.0 in
    let p : NodeView K = found_up.0 in
    let m : NodeView K = found_left.0 in
    let is : p ≡ with_newest d n = raised_is tells g d r call.had was up n p come call.raises found.1 found_up.1 in
    record {
      before = n;
      left = m;
      goes = record {
        before = found.1;
        there = ap (λ ns. slice_get ns r) call.told.nodes ∙ found_left.1;
        others = λ q other. ap (λ ns. slice_get ns q) call.told.nodes ∙ (call.others q other ∙ call.raises.others q other);
        count = ap length call.told.nodes ∙ (call.count ∙ call.raises.count);
        run = call.told.run m found_left.1
            ∙ (ap (λ (run : Run). with_more run (drop call.had m.history)) (call.run ∙ call.raises.run)
            ∙ ap (λ (had : ℕ). with_more was.run (drop had m.history)) (call.raises.entries n p found.1 found_up.1));
      };
      holds = subst (λ (x : NodeView K). Holds x m) is (call.holds p m found_up.1 found_left.1);
      whole = subst (λ (x : NodeView K). IsWhole tells x) is (call.raises.whole n p found.1 found_up.1);
      early = (call.told.node m found_left.1).time;
      counted = (call.told.node m found_left.1).counted;
      few = (call.told.node m found_left.1).few;
    }

-- it goes on so, where the laws have it come to each step of the driver
pub goes_on : {K : Type 0} (tells : K → StoreView) (step : DriverInput → Driver → Driver) (r : ℕ) (was up after : FleetView K) (Holds : NodeView K → NodeView K → Type 0)
    → r < length was.nodes → IsCalled tells r was up after Holds
    → ((g : DriverInput) (d : Driver) → HasCome tells g d was → IsKnown g r → IsStep tells d r was after Holds → HasCome tells g (step g d) after) → GoesOn tells step was after
goes_on tells step r was up after Holds there call comes g d stands = record {
  come = comes g d stands.come (subst (λ (c : ℕ). r < c) stands.come.count there) (is_step tells g d r was up after Holds stands.come there call);
  decides = stands.decides;
}

-- the node of another number, once one was raised, has the branch that it had
pub branch_stays : {K : Type 0} (tells : K → StoreView) (r had q : ℕ) (was up : FleetView K) (o : NodeView K) → Raises tells r had was up → slice_get was.nodes q ≡ Some o
    → (p : NodeView K) × (slice_get up.nodes q ≡ Some p) × (p.branch ≡ o.branch)
branch_stays {K} tells r had q was up o raises at = go (q == r) refl
  where
    go : (b : Bool) → (q == r) ≡ b → (p : NodeView K) × (slice_get up.nodes q ≡ Some p) × (p.branch ≡ o.branch)
    go true same =
        let is : q ≡ r = eqb-true q r same in
        let less : q < length up.nodes = subst (λ (c : ℕ). q < c) (sym raises.count) (slice_get_within was.nodes q o at) in
        let found : (p : NodeView K) × (slice_get up.nodes q ≡ Some p) = slice_get-within up.nodes q less in
        (found.0, found.1, ap (λ (x : NodeView K). x.branch) (raises.node o found.0 (ap (slice_get was.nodes) (sym is) ∙ at) (ap (slice_get up.nodes) (sym is) ∙ found.1)))
    go false other = (o, raises.others q (eqb-false q r other) ∙ at, refl)

-- the fleet as a function sees it once it was raised
pub seen_as : {K : Type 0} (tells : K → StoreView) (r had : ℕ) (was seen : FleetView K) (nodes : List (NodeView K)) (run : Run) → record { nodes = nodes; run = run } ≡ seen
    → Raises tells r had was seen → Raises tells r had was (record { nodes = nodes; run = run })
seen_as {K} tells r had was seen nodes run is raises = subst (λ (f : FleetView K). Raises tells r had was f) (sym is) raises

pub raised_other : {K : Type 0} (tells : K → StoreView) (r q had : ℕ) (was seen : FleetView K) (nodes : List (NodeView K)) (run : Run) → record { nodes = nodes; run = run } ≡ seen
    → Raises tells r had was seen → q < length was.nodes → q < length nodes
raised_other tells r q had was seen nodes run is raises there = subst (λ (c : ℕ). q < c) (sym (ap (λ f. length f.nodes) is ∙ raises.count)) there

pub raised_there : {K : Type 0} (tells : K → StoreView) (r had : ℕ) (was seen : FleetView K) (nodes : List (NodeView K)) (run : Run) → record { nodes = nodes; run = run } ≡ seen
    → Raises tells r had was seen → r < length was.nodes → r < length nodes
raised_there tells r had was seen nodes run is raises there = raised_other tells r r had was seen nodes run is raises there

-- a call of the nodes, as a function that makes it finds it
pub called : {K : Type 0} (tells : K → StoreView) (r had : ℕ) (was seen : FleetView K) (nodes now : List (NodeView K)) (run : Run) (after : FleetView K) (Holds : NodeView K → NodeView K → Type 0)
    → record { nodes = nodes; run = run } ≡ seen → Raises tells r had was seen → ((q : ℕ) → q ≢ r → slice_get now q ≡ slice_get nodes q) → length now ≡ length nodes → AtNode r nodes now Holds
    → Tells tells r had (record { nodes = now; run = run }) after → IsCalled tells r was (record { nodes = nodes; run = run }) after Holds
called {K} tells r had was seen nodes now run after Holds is raises others count holds told = record {
  had = had;
  called = record { nodes = now; run = run };
  raises = seen_as tells r had was seen nodes run is raises;
  run = refl;
  others = others;
  count = count;
  holds = holds;
  told = told;
}
