-- A call whose store wasn't asked, since the node's history was full: the fleet waits for room; and a call that had room.
use Rattle.std.proofs.Common.{◌≡◌, ℕ, ◌+◌, ◌<◌, ◌≤◌, ◌⊎◌, inl, inr, ◌++◌, Some, drop, length, sym, ap, ◌∙◌, subst, arith}
use Rattle.std.specs.Prelude.{slice_get}
use Rattle.std.proofs.lemmas.List.{length-append}
use Rattle.annex_base.specs.declared.kinds.Call.{Call}
use Rattle.annex_base.proofs.Lists.{slice_get-within}
use Rattle.run_data.specs.Histories.{most_entries}
use Rattle.run_data.specs.declared.run.Run.{Run}
use Rattle.driver_model.specs.Driver.{Driver, DriverInput}
use Rattle.driver_model.specs.Limits.{count_of, within_limit}
use Rattle.fleet_entries.specs.Nodes.{NodeView}
use Rattle.fleet_entries.specs.Refusals.{RefusesSo}
use Rattle.fleet_entries.specs.Stored.{StoreView}
use Rattle.fleet_entries.specs.Walks.{over}
use Rattle.fleet_entries.specs.Fleets.{FleetView, HasCome}
use Rattle.fleet_entries.specs.Stopping.{OthersAreFew}
use Rattle.fleet_entries.specs.AtDriver.{HasRoom, IsAtDriver, WaitsForRoom}
use Rattle.fleet_entries.specs.Telling.{AreFew}
use Rattle.fleet_entries.specs.declared.NodeRefused.TheVariants as refusals
use Rattle.fleet_entries.proofs.Called.{IsCalled, IsStep, is_step}
use Rattle.fleet_entries.proofs.Full.{counted, few_others, run_stays}

-- ---- a full history

-- the law of such a step
abbrev pub AsksFirst : {K : Type 0} → (K → StoreView) → (DriverInput → Driver → Driver) → ℕ → FleetView K → Type 0
AsksFirst {K} tells step r was = (g : DriverInput) (d : Driver) (n : NodeView K) → HasCome tells g d was → slice_get was.nodes r ≡ Some n → OthersAreFew r was.nodes → length n.history ≡ most_entries
    → (count_of d.past r ≡ most_entries) × (within_limit g (step g d).past ≡ d.past)

-- the call asked no store of its node
abbrev pub IsUnasked : {K : Type 0} → NodeView K → NodeView K → Type 0
IsUnasked n m = (length n.history ≡ most_entries) × (m ≡ over m.keeper n)

pub waits : {K : Type 0} (tells : K → StoreView) (step : DriverInput → Driver → Driver) (r : ℕ) (was up after : FleetView K) → AsksFirst tells step r was → r < length was.nodes → IsCalled tells r was up after IsUnasked
    → AreFew after.nodes → WaitsForRoom tells r step was after
waits {K} tells step r was up after law there call few = record {
  full = λ g d stands. (asked g d stands).0;
  past = λ g d stands. (asked g d stands).1;
  run = same;
}
  where
    asked : (g : DriverInput) (d : Driver) → IsAtDriver tells g d was → (count_of d.past r ≡ most_entries) × (within_limit g (step g d).past ≡ d.past)
    asked g d stands =
        let s : IsStep tells d r was after IsUnasked = is_step tells g d r was up after IsUnasked stands.come there call in
        law g d s.before stands.come s.goes.before (few_others r was after few s.goes.others) s.holds.0

    same : after.run ≡ was.run
    same =
        let n : (n : NodeView K) × (slice_get was.nodes r ≡ Some n) = slice_get-within was.nodes r there in
        let p : (n : NodeView K) × (slice_get up.nodes r ≡ Some n) = slice_get-within up.nodes r (subst (λ (c : ℕ). r < c) (sym call.raises.count) there) in
        let m : (n : NodeView K) × (slice_get call.called.nodes r ≡ Some n) = slice_get-within call.called.nodes r (subst (λ (c : ℕ). r < c) (sym (call.count ∙ call.raises.count)) there) in
        run_stays p.0 m.0 was after
        (call.told.run m.0 m.1 ∙ (ap (λ (run : Run). record run { entries = run.entries ++ drop call.had m.0.history }) (call.run ∙ call.raises.run)
        ∙ ap (λ (had : ℕ). record was.run { entries = was.run.entries ++ drop had m.0.history }) (call.raises.entries n.0 p.0 n.1 p.1 ∙ ap (λ (x : NodeView K). length x.history) (sym (call.raises.node n.0 p.0 n.1 p.1)))))
        (ap (λ (x : NodeView K). x.history) (call.holds p.0 m.0 p.1 m.1).1)

-- ---- room

-- a store call that failed made an entry
pub fault_grew : {K : Type 0} (call : Call) (n m : NodeView K) → RefusesSo refusals.StoreFault call n m → length n.history < length m.history
fault_grew {K} call n m refused = above (length n.history) (length m.history) (ap (λ (x : NodeView K). length x.history) refused ∙ length-append n.history _)
  where
    above : (a b : ℕ) → b ≡ a + 1 → a < b
    above a b one = omega (arith, one)

-- there was room for the entry of a call that was done, or of a store call that failed
abbrev pub HadRoom : {K : Type 0} → NodeView K → NodeView K → Type 0
HadRoom n m = (length n.history < most_entries) ⊎ (length n.history < length m.history)

pub has_room : {K : Type 0} (tells : K → StoreView) (r : ℕ) (was up after : FleetView K) → r < length was.nodes → IsCalled tells r was up after HadRoom → HasRoom tells r was
has_room {K} tells r was up after there call g d stands =
    let s : IsStep tells d r was after HadRoom = is_step tells g d r was up after HadRoom stands.come there call in
    subst (λ (k : ℕ). k < most_entries) (sym (counted tells g d r s.before (stands.come.each r s.before s.goes.before))) (go (length s.before.history) (length s.left.history) most_entries s.holds s.few)
  where
    go : (a b n : ℕ) → (a < n) ⊎ (a < b) → b ≤ n → a < n
    go a b n (inl less) few = less
    go a b n (inr less) few = omega (arith, less, few)
