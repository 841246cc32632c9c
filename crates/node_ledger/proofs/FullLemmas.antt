-- Walks that met a full history.
use Rattle.std.proofs.Common.{◌≡◌, ℕ, ◌+◌, ◌<◌, Bool, true, List, ◌∷◌, ◌++◌, take, drop, length, get_or, None, Result, OnOk, sym, ap, subst, ◌∙◌}
use Rattle.std.specs.List.{fold, list_any}
use Rattle.std.proofs.lemmas.List.{append_cancel_right, drop_more, take-append-drop}
use Rattle.annex_base.specs.declared.kinds.Call.TheVariants.{PutFile}
use Rattle.content_lock.specs.CallsMade.{MakesCalls}
use Rattle.run_data.specs.Histories.{most_entries}
use Rattle.node_past.specs.declared.refused.NodeRefused.{NodeRefused}
use Rattle.node_past.specs.declared.refused.NodeRefused.TheVariants.{Full}
use Rattle.node_ledger.specs.Calls.{MeetsFull}
use Rattle.node_past.specs.Calls.{StopsIn, to_write}
use Rattle.node_ledger.specs.Refusals.{RefusesSo}
use Rattle.node_ledger.specs.Walks.{over}
use Rattle.node_past.proofs.CallLemmas.{Failing}
use Rattle.node_ledger.proofs.WalkCallLemmas.{IsBlind, Wrote}
use Rattle.node_ledger.proofs.WalkLemmas.{Went}
use Rattle.node_ledger.specs.Ledgers.{LedgerView}

-- ---- walks

-- the next one was to be written, and was refused for a full history
pub meets : {K X : Type 0} (step : LedgerView K → X → LedgerView K) (test : LedgerView K → X → Bool) (start now next : LedgerView K) (all : List X) (x : X) (rest : List X) (e : NodeRefused) (before mid after : Failing) → IsBlind test
    → Went step start now all (x ∷ rest) → Wrote test start now all (x ∷ rest) before mid → StopsIn (to_write (test now x)) PutFile e mid after → RefusesSo e PutFile now next → (e ≡ Full → test now x ≡ true) → e ≡ Full
    → MeetsFull (λ xs. fold step start xs) test all before after start next
meets {K} {X} step test start now next all x rest e before mid after blind went wrote stops refused writes is =
    let same : after ≡ mid = subst (λ (y : NodeRefused). StopsIn (to_write (test now x)) PutFile y mid after) is stops in
    let full : RefusesSo Full PutFile now next = subst (λ (y : NodeRefused). RefusesSo y PutFile now next) is refused in
    record {
      done = went.done;
      next = x;
      left = rest;
      whole = went.whole;
      calls = subst (λ (xs : List X). MakesCalls (to_write (list_any (test start) xs)) None before after) (append_cancel_right wrote.done went.done (x ∷ rest) (sym wrote.whole ∙ went.whole))
          (subst (λ (f : Failing). MakesCalls (to_write (list_any (test start) wrote.done)) None before f) (sym same) wrote.calls);
      node = full.0 ∙ ap (λ (m : LedgerView K). over next.keeper m) went.is;
      full = ap (λ (m : LedgerView K). length m.history) full.0 ∙ full.1;
      writes = ap (λ (m : LedgerView K). test m x) full.0 ∙ (blind next.keeper now x ∙ writes is);
    }

-- by the places of a list
pub meets_at : {K X : Type 0} (step : LedgerView K → X → LedgerView K) (test : LedgerView K → X → Bool) (start now next : LedgerView K) (all : List X) (i : ℕ) (d x : X) (e : NodeRefused) (before mid after : Failing) → IsBlind test → i < length all → get_or all i d ≡ x
    → now ≡ over now.keeper (fold step start (take i all)) → Wrote test start now all (drop i all) before mid → StopsIn (to_write (test now x)) PutFile e mid after → RefusesSo e PutFile now next → (e ≡ Full → test now x ≡ true) → e ≡ Full
    → MeetsFull (λ xs. fold step start xs) test all before after start next
meets_at {K} {X} step test start now next all i d x e before mid after blind below at here wrote stops refused writes is =
    let rest : drop i all ≡ x ∷ drop (i + 1) all = drop_more all i d below ∙ ap (λ (y : X). y ∷ drop (i + 1) all) at in
    meets step test start now next all x (drop (i + 1) all) e before mid after blind
    (record { done = take i all; whole = sym (take-append-drop i all) ∙ ap (λ (xs : List X). take i all ++ xs) rest; is = here })
    (subst (λ (xs : List X). Wrote test start now all xs before mid) rest wrote) stops refused writes is

-- the same, of the repository as it is seen
pub room_seen : {K X : Type 0} (r : Result X NodeRefused) (was : LedgerView K) (n : LedgerView K) → was ≡ n → OnOk r (length was.history < most_entries) → OnOk r (length n.history < most_entries)
room_seen {K} r was n view room = subst (λ (v : LedgerView K). OnOk r (length v.history < most_entries)) view room
