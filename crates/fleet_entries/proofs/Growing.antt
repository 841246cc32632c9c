-- No call takes an entry of a node away.
use Rattle.std.proofs.Common.{◌≡◌, ℕ, suc, ◌<◌, ◌≤◌, List, [], ◌∷◌, ◌++◌, Some, length, refl, sym, subst, arith}
use Rattle.std.specs.Prelude.{slice_get}
use Rattle.annex_base.specs.declared.kinds.Call.{Call}
use Rattle.annex_base.proofs.Lists.{slice_get-within}
use Rattle.run_data.specs.declared.entry.EntryKind.{EntryKind}
use Rattle.union_merge.specs.Branch.{Files}
use Rattle.fleet_model.specs.Nodes.{NodeView, with_entry}
use Rattle.fleet_model.specs.Refusals.{RefusesSo}
use Rattle.fleet_model.specs.Stored.{StoreView}
use Rattle.fleet_model.specs.NodeRefused.{NodeRefused}
use Rattle.fleet_model.specs.Joined.{AtNode}
use Rattle.fleet_model.specs.Fleets.{FleetView}
use Rattle.fleet_entries.specs.Telling.{Raises}
use Rattle.fleet_model.specs.NodeRefused.TheVariants as refusals

-- it has as many entries, or more
abbrev pub Grows : {K : Type 0} → NodeView K → NodeView K → Type 0
Grows n m = length n.history ≤ length m.history

pub grows_as : {K : Type 0} (n m : NodeView K) → m ≡ n → Grows n m
grows_as n m e = subst (λ x. Grows n x) (sym e) (none (length n.history))
  where
    none : (k : ℕ) → k ≤ k
    none k = omega arith

pub grows_on : {K : Type 0} (n m o : NodeView K) → Grows n m → Grows m o → Grows n o
grows_on n m o first second = both (length n.history) (length m.history) (length o.history) first second
  where
    both : (a b c : ℕ) → a ≤ b → b ≤ c → a ≤ c
    both a b c first second = omega arith

pub longer : {X : Type 0} (xs : List X) (x : X) → length xs ≤ length (xs ++ x ∷ [])
longer [] x = omega arith
longer (y ∷ ys) x = more (length ys) (length (ys ++ x ∷ [])) (longer ys x)
  where
    more : (a b : ℕ) → a ≤ b → suc a ≤ suc b
    more a b less = omega arith

pub entry_grows : {K : Type 0} (n : NodeView K) (keeper : K) (branch : Files) (kind : EntryKind) (lines : List (List ℕ)) → Grows n (with_entry n keeper branch kind lines)
entry_grows n keeper branch kind lines = longer n.history _

pub refusal_grows : {K : Type 0} (e : NodeRefused) (call : Call) (n m : NodeView K) → RefusesSo e call n m → Grows n m
refusal_grows refusals.Full call n m is = subst (λ x. Grows n x) (sym is.0) (grows_as n n refl)
refusal_grows refusals.StoreFault call n m is = subst (λ x. Grows n x) (sym is) (entry_grows n m.keeper n.branch _ [])
refusal_grows (refusals.BadBundle at) call n m is = absurd is
refusal_grows refusals.NoMemory call n m is = subst (λ x. Grows n x) (sym is) (grows_as n n refl)

-- ---- so the node has as many entries as before it was raised, or more

pub had_at_most : {K : Type 0} (tells : K → StoreView) (r had : ℕ) (was up : FleetView K) (now : List (NodeView K)) → Raises tells r had was up → r < length was.nodes → AtNode r up.nodes now Grows
    → (m : NodeView K) → slice_get now r ≡ Some m → had ≤ length m.history
had_at_most {K} tells r had was up now raises there grows m at =
    let before : (n : NodeView K) × (slice_get was.nodes r ≡ Some n) = slice_get-within was.nodes r there in
    let raised : (n : NodeView K) × (slice_get up.nodes r ≡ Some n) = slice_get-within up.nodes r (subst (λ c. r < c) (sym raises.count) there) in
    let grown : length before.0.history ≤ length m.history = subst (λ (x : NodeView K). Grows x m) (raises.node before.0 raised.0 before.1 raised.1) (grows raised.0 m raised.1 at) in
    subst (λ k. k ≤ length m.history) (sym (raises.entries before.0 raised.0 before.1 raised.1)) grown
