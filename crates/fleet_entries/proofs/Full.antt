-- A call of one node of a fleet met a full history, and what the run keeps.
use Rattle.std.proofs.Common.{◌≡◌, ◌≢◌, ℕ, zero, suc, ◌+◌, ◌<◌, ◌≤◌, List, [], ◌∷◌, ◌++◌, Some, Result, Ok, Err, drop, length, sym, ap, ◌∙◌, subst}
use Rattle.std.specs.Prelude.{IsErrAnd, filter, slice_get}
use Rattle.std.proofs.lemmas.List.{append-nil, append_assoc, length-reverse}
use Rattle.std.proofs.lemmas.Option.{same_Some}
use Rattle.annex_base.specs.Lists.{Each}
use Rattle.run_data.specs.Histories.{most_entries}
use Rattle.run_data.specs.declared.entry.Entry.{Entry}
use Rattle.run_data.specs.declared.run.Run.{Run}
use Rattle.run_model.specs.Past.{is_of}
use Rattle.driver_model.specs.Driver.{Driver, DriverInput}
use Rattle.driver_model.specs.Limits.{StopsAtFull, count_of}
use Rattle.fleet_model.specs.Nodes.{NodeView}
use Rattle.fleet_model.specs.Stored.{StoreView}
use Rattle.fleet_model.specs.Fleets.{FleetView, HasCome, IsNodeOf}
use Rattle.fleet_model.specs.Stopping.{OthersAreFew}
use Rattle.fleet_entries.specs.AtDriver.{EndsAtFull, OnlyAddsBehind, OnlyAddsEntries}
use Rattle.fleet_entries.specs.Telling.{AreFew}
use Rattle.std.proofs.Math.Seq.{drop-length}
use Rattle.fleet_entries.proofs.Called.{IsCalled, IsStep, is_step, with_more}

-- ---- no node has made too many entries

pub each_at : {X : Type 0} (P : X → Type 0) (xs : List X) (i : ℕ) (x : X) → Each P xs → slice_get xs i ≡ Some x → P x
each_at P [] i x each at = absurd (cc)
each_at P (y ∷ ys) zero x each at = subst P (same_Some y x at) each.0
each_at P (y ∷ ys) (suc i) x each at = each_at P ys i x each.1 at

pub few_others : {K : Type 0} (r : ℕ) (was after : FleetView K) → AreFew after.nodes → ((q : ℕ) → q ≢ r → slice_get after.nodes q ≡ slice_get was.nodes q) → OthersAreFew r was.nodes
few_others r was after few others q x other at = each_at (λ n. length n.history ≤ most_entries) after.nodes q x few (others q other ∙ at)

-- the nodes of a fleet as a function sees it
pub few_in : {K : Type 0} (nodes : List (NodeView K)) (run : Run) (f : FleetView K) → record { nodes = nodes; run = run } ≡ f → AreFew nodes → AreFew f.nodes
few_in nodes run f is few = subst (λ (x : FleetView _). AreFew x.nodes) is few

-- ---- the run

-- it is as it was, where the node has made no entry
pub run_stays : {K : Type 0} (n m : NodeView K) (was after : FleetView K) → after.run ≡ record was.run { entries = was.run.entries ++ drop (length n.history) m.history } → m.history ≡ n.history → after.run ≡ was.run
run_stays n m was after run same =
    run ∙ ap (λ (entries : List Entry). record was.run { entries = entries })
    (ap (λ (history : List Entry). was.run.entries ++ drop (length n.history) history) same ∙ (ap (λ (more : List Entry). was.run.entries ++ more) (drop-length n.history) ∙ append-nil was.run.entries))

-- it has some entries more, where a function raises a node, calls it and tells it
pub rest_on : {K : Type 0} (was seen : FleetView K) (nodes now : List (NodeView K)) (run : Run) (after : FleetView K) → record { nodes = nodes; run = run } ≡ seen → seen.run ≡ was.run
    → OnlyAddsEntries (record { nodes = now; run = run }) after → OnlyAddsEntries was after
rest_on {K} was seen nodes now run after is same rest = (rest.0, rest.1 ∙ ap (λ (r : Run). with_more r rest.0) (ap (λ (f : FleetView K). f.run) is ∙ same))

pub rest_where_same : {K : Type 0} (was after : FleetView K) → after.run ≡ was.run → OnlyAddsEntries was after
rest_where_same was after same = ([], same ∙ (λ i. record was.run { entries = sym (append-nil was.run.entries) i }))

pub rest_then : {K : Type 0} (was mid after : FleetView K) → OnlyAddsEntries was mid → OnlyAddsEntries mid after → OnlyAddsEntries was after
rest_then was mid after first second =
    (first.0 ++ second.0, second.1 ∙ (ap (λ (r : Run). with_more r second.0) first.1 ∙ (λ i. record was.run { entries = append_assoc was.run.entries first.0 second.0 i })))

-- the same of its tree
pub behind : {K : Type 0} (was after : FleetView K) → OnlyAddsEntries was after → OnlyAddsBehind was after
behind was after rest = (rest.0, [], rest.1 ∙ (λ i. record was.run { entries = was.run.entries ++ rest.0; tree = sym (append-nil was.run.tree) i }))

pub behind_same : {K : Type 0} (was mid after : FleetView K) → OnlyAddsBehind was mid → after.run ≡ mid.run → OnlyAddsBehind was after
behind_same was mid after rest same = (rest.0, rest.1, same ∙ rest.2)

pub behind_on : {K : Type 0} (was mid after : FleetView K) → OnlyAddsBehind was mid → OnlyAddsEntries mid after → OnlyAddsBehind was after
behind_on was mid after first second =
    (first.0 ++ second.0, first.1, second.1 ∙ (ap (λ (r : Run). with_more r second.0) first.2 ∙ (λ i. record was.run { entries = append_assoc was.run.entries first.0 second.0 i; tree = was.run.tree ++ first.1 })))

-- its other parts are as they were
pub only_entries : {K : Type 0} (was after : FleetView K) → OnlyAddsEntries was after → after.run ≡ record was.run { entries = after.run.entries }
only_entries was after rest = rest.1 ∙ ap (λ (es : List Entry). record was.run { entries = es }) (sym (ap (λ (r : Run). r.entries) rest.1))

-- ---- steps that end there

pub ends_for : {K : Type 0} (tells : K → StoreView) (r q : ℕ) (step : DriverInput → Driver → Driver) (was after : FleetView K) → q ≡ r → EndsAtFull tells r step was after → EndsAtFull tells q step was after
ends_for tells r q step was after same ends = subst (λ (k : ℕ). EndsAtFull tells k step was after) (sym same) ends

-- a call ends there, where the laws have it so
pub ends_at : {K : Type 0} (tells : K → StoreView) (step : DriverInput → Driver → Driver) (r : ℕ) (was up after : FleetView K) (Holds : NodeView K → NodeView K → Type 0)
    → r < length was.nodes → IsCalled tells r was up after Holds → AreFew after.nodes
    → ((g : DriverInput) (d : Driver) → HasCome tells g d was → OthersAreFew r was.nodes → IsStep tells d r was after Holds → StopsAtFull g r (step g d) after.run) → EndsAtFull tells r step was after
ends_at tells step r was up after Holds there call few stops g d stands =
    let s = is_step tells g d r was up after Holds stands.come there call in
    stops g d stands.come (few_others r was after few s.goes.others) s

-- how many entries the driver says that the repository of a node has made
pub counted : {K : Type 0} (tells : K → StoreView) (g : DriverInput) (d : Driver) (r : ℕ) (n : NodeView K) → IsNodeOf tells g d r n → count_of d.past r ≡ length n.history
counted tells g d r n is = sym (ap length is.history ∙ length-reverse (filter (is_of r) d.past))

-- a function put these entries behind those of the run that it sees
pub rest_of : {K : Type 0} (nodes : List (NodeView K)) (run : Run) (entries more : List Entry) (was : FleetView K) → record { nodes = nodes; run = run } ≡ was → entries ≡ run.entries ++ more
    → OnlyAddsEntries was (record { nodes = nodes; run = record run { entries = entries } })
rest_of {K} nodes run entries more was is pushed = (more, (λ i. record run { entries = pushed i }) ∙ ap (λ (f : FleetView K). with_more f.run more) is)

pub ok_or_err : {X E : Type 0} (x : X) (y : E) → Ok x ≡ Err y → ⊥
ok_or_err x y e = absurd (cc)

-- a refusal of a call that `?` hands on is that of the call
pub same_err : {X Y E : Type 0} (done : Result X E) (back : Result Y E) (x y : E) → done ≡ Err x → IsErrAnd back (λ z. z ≡ x) → back ≡ Err y → done ≡ Err y
same_err {X} {Y} {E} done back x y was gives is = was ∙ (λ i. Err (sym (subst (λ (b : Result Y E). IsErrAnd b (λ z. z ≡ x)) is gives) i))
