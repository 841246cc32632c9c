-- How a call of a node ended.
use Rattle.std.proofs.Common.{◌≡◌, ℕ, ◌<◌, ◌⊎◌, List, Some, Result, Ok, Err, sym, subst}
use Rattle.std.specs.Prelude.{IfErr, OnOk, slice_get, length}
use Rattle.annex_base.proofs.Lists.{slice_get-within}
use Rattle.fleet_model.specs.Nodes.{NodeView}
use Rattle.fleet_model.specs.NodeRefused.{NodeRefused}
use Rattle.fleet_model.specs.Joined.{AtNode}
use Rattle.fleet_model.specs.NodeRefused.TheVariants as refusals

-- what a call of a node that writes files answers
abbrev pub Answer : Type 0
Answer = Result (Unit {0}) NodeRefused

-- the step is done, or its call of the store failed
abbrev pub IsEnded : Answer → Type 0
IsEnded done = (done ≡ Ok tt) ⊎ (done ≡ Err refusals.StoreFault)

-- what follows from what an answer leaves
pub on_ok : {X E : Type 0} (done : Result X E) (P Q : Type 0) → OnOk done P → (P → Q) → OnOk done Q
on_ok (Ok x) P Q holds then = then holds
on_ok (Err e) P Q holds then = tt

-- no step but the reading of a text says that it is no bundle
pub never_bundle : {K : Type 0} (r : ℕ) (was now : List (NodeView K)) (done : Answer) (Refused : NodeRefused → NodeView K → NodeView K → Type 0) → ((at : ℕ) (n m : NodeView K) → Refused (refusals.BadBundle at) n m → ⊥)
    → r < length was → length now ≡ length was → AtNode r was now (λ n m. IfErr done (λ e. Refused e n m)) → (at : ℕ) → done ≡ Err (refusals.BadBundle at) → ⊥
never_bundle {K} r was now done Refused never there count refused at e =
    let first : (n : NodeView K) × (slice_get was r ≡ Some n) = slice_get-within was r there in
    let second : (n : NodeView K) × (slice_get now r ≡ Some n) = slice_get-within now r (subst (λ (c : ℕ). r < c) (sym count) there) in
    never at first.0 second.0 (subst (λ (a : Answer). IfErr a (λ x. Refused x first.0 second.0)) e (refused first.0 second.0 first.1 second.1))
