-- A call of a node's store that will fail: a fleet goes on as the driver does.
use Rattle.std.proofs.Common.{◌≡◌, ◌≢◌, ℕ, ◌+◌, ◌<◌, List, ◌++◌, Some, drop, length, refl, sym, ap, ◌∙◌, subst}
use Rattle.std.specs.Prelude.{slice_get}
use Rattle.std.specs.Option.{option_map}
use Rattle.std.proofs.lemmas.List.{append-nil}
use Rattle.annex_base.specs.declared.kinds.Call.{Call}
use Rattle.annex_base.proofs.Lists.{slice_get-within}
use Rattle.object_store.specs.Calls.{one_more}
use Rattle.run_data.specs.declared.entry.Entry.{Entry}
use Rattle.run_data.specs.declared.run.Run.{Run}
use Rattle.run_model.specs.Past.{now}
use Rattle.driver_model.specs.Driver.{Driver, DriverInput}
use Rattle.driver_model.specs.ScriptSteps.{will_fail}
use Rattle.driver_model.specs.Sound.{StaysSound}
use Rattle.fleet_entries.specs.Nodes.{NodeView}
use Rattle.fleet_entries.specs.Stored.{StoreView}
use Rattle.fleet_entries.specs.Joined.{AtNode}
use Rattle.fleet_entries.specs.Fleets.{FleetView, HasCome}
use Rattle.fleet_entries.specs.Steps.{OneGoesOn}
use Rattle.fleet_entries.specs.AtDriver.{GoesOn}
use Rattle.std.proofs.Math.Seq.{drop-length}

-- ---- calls that will fail

abbrev pub FailLaw : {K : Type 0} → (K → StoreView) → Type 0
FailLaw {K} tells = (g : DriverInput) (d : Driver) (r : ℕ) (call : Call) (n m : NodeView K) (was after : FleetView K) → HasCome tells g d was → OneGoesOn r n m was after
    → m ≡ record n { keeper = m.keeper } → (tells m.keeper).contents ≡ (tells n.keeper).contents → (tells m.keeper).parts ≡ (tells n.keeper).parts
    → (tells m.keeper).failing ≡ option_map (one_more call) (tells n.keeper).failing → StaysSound g d (will_fail r call d) → HasCome tells g (will_fail r call d) after

-- one more call of the node's store is to fail
pub record FailsNext {K : Type 0} (tells : K → StoreView) (call : Call) (n m : NodeView K) : Type 0 where
  pub rest : m ≡ record n { keeper = m.keeper }
  pub contents : (tells m.keeper).contents ≡ (tells n.keeper).contents
  pub parts : (tells m.keeper).parts ≡ (tells n.keeper).parts
  pub failing : (tells m.keeper).failing ≡ option_map (one_more call) (tells n.keeper).failing

pub fails_go : {K : Type 0} (tells : K → StoreView) (r : ℕ) (was after : FleetView K) (call : Call) → FailLaw tells → r < length was.nodes → after.run ≡ was.run
    → ((q : ℕ) → q ≢ r → slice_get after.nodes q ≡ slice_get was.nodes q) → length after.nodes ≡ length was.nodes → AtNode r was.nodes after.nodes (FailsNext tells call)
    → ((g : DriverInput) (d : Driver) → StaysSound g d (will_fail r call d)) → GoesOn tells (λ g d. will_fail r call d) was after
fails_go {K} tells r was after call law there run others count holds sound g d stands =
    let before : (n : NodeView K) × (slice_get was.nodes r ≡ Some n) = slice_get-within was.nodes r there in
    let left : (n : NodeView K) × (slice_get after.nodes r ≡ Some n) = slice_get-within after.nodes r (subst (λ (c : ℕ). r < c) (sym count) there) in
    let n : NodeView K = before.0 in
    let m : NodeView K = left.0 in
    let h : FailsNext tells call n m = holds n m before.1 left.1 in
    record {
      come = law g d r call n m was after stands.come
          (record {
            before = before.1;
            there = left.1;
            others = others;
            count = count;
            run = run ∙ ap (λ (entries : List Entry). record was.run { entries = entries })
                (sym (ap (λ (more : List Entry). was.run.entries ++ more) (ap (λ (x : NodeView K). drop (length n.history) x.history) h.rest ∙ drop-length n.history) ∙ append-nil was.run.entries));
          })
          h.rest h.contents h.parts h.failing (sound g d);
      decides = stands.decides;
    }

-- the same, of a fleet as a function sees it
pub fails_go_so : {K : Type 0} (tells : K → StoreView) (r : ℕ) (was : FleetView K) (nodes now : List (NodeView K)) (run : Run) (call : Call) → record { nodes = nodes; run = run } ≡ was → FailLaw tells → r < length was.nodes
    → ((q : ℕ) → q ≢ r → slice_get now q ≡ slice_get nodes q) → length now ≡ length nodes → AtNode r nodes now (FailsNext tells call)
    → ((g : DriverInput) (d : Driver) → StaysSound g d (will_fail r call d)) → GoesOn tells (λ g d. will_fail r call d) was (record { nodes = now; run = run })
fails_go_so {K} tells r was nodes now run call is law there others count holds sound =
    subst (λ (f : FleetView K). GoesOn tells (λ g d. will_fail r call d) f (record { nodes = now; run = run })) is
    (fails_go tells r (record { nodes = nodes; run = run }) (record { nodes = now; run = run }) call law (subst (λ (f : FleetView K). r < length f.nodes) (sym is) there) refl others count holds sound)
