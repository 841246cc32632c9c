-- Calls that met a full history.
use Rattle.std.proofs.Common.{◌≡◌, ℕ, ◌⊎◌, inl, inr, List, [], ◌∷◌, length, Option, None, Result, Ok, Err, OnOk, IfErr, IsErrAnd, sym, ap, subst, ◌∙◌}
use Rattle.annex_base.specs.declared.kinds.Call.{Call}
use Rattle.annex_base.specs.declared.kinds.Call.TheVariants.{Append, Commit, DropPart, Has, PutFile}
use Rattle.object_store.specs.Stores.{Contents, Parts}
use Rattle.content_lock.specs.CallsMade.{MakesCalls}
use Rattle.run_data.specs.Histories.{most_entries}
use Rattle.node_past.specs.declared.refused.NodeRefused.{NodeRefused}
use Rattle.node_past.specs.declared.refused.NodeRefused.TheVariants.{Full}
use Rattle.node_past.specs.Calls.{Makes, StopsIn}
use Rattle.repo_node.specs.Calls.{MeetsFullBehind}
use Rattle.node_steps.specs.Nodes.{NodeView}
use Rattle.node_ledger.specs.Placing.{StopsBefore}
use Rattle.node_ledger.specs.Refusals.{RefusesSo}
use Rattle.node_ledger.specs.Walks.{over}
use Rattle.node_past.proofs.CallLemmas.{Failing, same_refusal}
use Rattle.repo_node.proofs.PlaceCallLemmas.{IsGained}

-- ---- contents

-- the history was full before the content, or behind it
abbrev pub MeetsFullPlacing : {K : Type 0} → List ℕ → List ℕ → Option Contents → Failing → Failing → NodeView K → NodeView K → Type 0
MeetsFullPlacing key bytes cs f f' n m = ((length n.history ≡ most_entries) × (m ≡ over m.keeper n)) ⊎ MeetsFullBehind key bytes cs f f' n m

full_before : {K : Type 0} (call : Call) (n m : NodeView K) → RefusesSo Full call n m → (length n.history ≡ most_entries) × (m ≡ over m.keeper n)
full_before call n m h = (h.1, h.0)

-- before the part had the bytes
pub full_bringing : {K X : Type 0} (r : Result X NodeRefused) (e : NodeRefused) (key bytes : List ℕ) (cs : Option Contents) (f f' : Failing) (n m : NodeView K) → IsErrAnd r (λ d. d ≡ e) → StopsBefore e n m → r ≡ Err Full → MeetsFullPlacing key bytes cs f f' n m
full_bringing (Ok x) e key bytes cs f f' n m same stops is = absurd same
full_bringing {K} {X} (Err d) e key bytes cs f f' n m same stops is =
    inl (full_before stops.call n m (subst (λ (y : NodeRefused). RefusesSo y stops.call n m) (sym same ∙ same_refusal {X = X} d Full is) stops.refused))

-- before the commit
pub full_commit : {K : Type 0} (e : NodeRefused) (key bytes : List ℕ) (cs : Option Contents) (f f' : Failing) (n b m : NodeView K) → b ≡ over b.keeper n → RefusesSo e Commit b m → e ≡ Full → MeetsFullPlacing key bytes cs f f' n m
full_commit {K} e key bytes cs f f' n b m brought refused is =
    let full : RefusesSo Full Commit b m = subst (λ (y : NodeRefused). RefusesSo y Commit b m) is refused in
    inl (ap (λ (v : NodeView K). length v.history) (sym brought) ∙ full.1, full.0 ∙ ap (λ (v : NodeView K). over m.keeper v) brought)

-- before the line
pub full_line : {K : Type 0} (r : Result (Unit {0}) NodeRefused) (key bytes : List ℕ) (cs c2 : Option Contents) (ps p2 : Option Parts) (f f2 f3 : Failing) (n g m : NodeView K) → IsGained key bytes cs c2 ps p2 f f2 n g
    → IfErr r (λ e. RefusesSo e PutFile g m) → Makes (PutFile ∷ []) PutFile r f2 f3 → r ≡ Err Full → MeetsFullPlacing key bytes cs f f3 n m
full_line (Ok x) key bytes cs c2 ps p2 f f2 f3 n g m it refused made is = absurd cc
full_line {K} (Err e) key bytes cs c2 ps p2 f f2 f3 n g m it refused made is =
    let so : e ≡ Full = same_refusal {X = Unit {0}} e Full is in
    let full : RefusesSo Full PutFile g m = subst (λ (y : NodeRefused). RefusesSo y PutFile g m) so refused in
    let same : f3 ≡ f2 = subst (λ (y : NodeRefused). StopsIn (PutFile ∷ []) PutFile y f2 f3) so made in
    inr (record {
      free = it.told;
      calls = subst (λ (x : Failing). MakesCalls (Has ∷ DropPart ∷ Append ∷ Commit ∷ []) None f x) (sym same) it.calls;
      node = full.0 ∙ ap (λ (v : NodeView K). over m.keeper v) it.node;
      full = ap (λ (v : NodeView K). length v.history) full.0 ∙ full.1;
    })

-- where a later call answers
pub room_later : {X Y : Type 0} (x : X) (r : Result Y NodeRefused) {P : Type 0} → OnOk {T = X} {E = NodeRefused} (Ok x) P → OnOk r P
room_later x (Ok y) room = room
room_later x (Err e) room = tt
