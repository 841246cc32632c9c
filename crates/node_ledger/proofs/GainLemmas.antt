-- A ledger after a content came, or a part.
use Rattle.std.proofs.Common.{◌≡◌, ℕ, Bool, List, [], Option, Result, Ok, Err, OnOk, IfErr, refl, sym, ap, subst, ◌∙◌}
use Rattle.run_data.specs.declared.entry.EntryKind.TheVariants.{Gain}
use Rattle.run_data.specs.declared.entry.By.TheVariants.{Script}
use Rattle.node_model.specs.OwedLines.{OwedLine}
use Rattle.annex_base.specs.declared.kinds.Call.{Call}
use Rattle.content_lock.specs.Rows.{Rows}
use Rattle.object_store.specs.Stores.{Contents, Parts}
use Rattle.union_merge.specs.Branch.{Files}
use Rattle.node_past.specs.declared.past.Past.{Past}
use Rattle.node_past.specs.declared.refused.NodeRefused.{NodeRefused}
use Rattle.node_past.specs.Owing.{owed_refused}
use Rattle.node_past.specs.Pasts.{AddsTo, FailsAtScripts, SamePast}
use Rattle.node_ledger.specs.Placing.{StopsBefore, with_gain}
use Rattle.node_ledger.specs.Refusals.{RefusesFor, RefusesSo}
use Rattle.node_past.proofs.CallLemmas.{Failing}
use Rattle.store_entries.proofs.PlaceCallLemmas.{StopsTold}
use Rattle.store_entries.specs.Calls.{StopsWhere, to_place_part}
use Rattle.store_entries.specs.Placing.{IsTaken}
use Rattle.node_ledger.specs.Walks.{over}
use Rattle.node_past.proofs.OwedLemmas.{Grows, grows_failed, grows_same, refused_stay}
use Rattle.node_ledger.proofs.WriteLemmas.{ledger_adds, ledger_failed, ledger_of, ledger_same}
use Rattle.node_ledger.specs.Ledgers.{LedgerView}

-- ---- what clauses see

pub seen_same : {K X : Type 0} (r : Result X NodeRefused) (k k' : K) (b : Files) (was now : Past) (owed owed' : List OwedLine) (n : LedgerView K) → ledger_of k b was owed ≡ n → OnOk r (SamePast was now) → owed' ≡ owed
    → OnOk r (ledger_of k' b now owed' ≡ over k' n)
seen_same {K} (Ok x) k k' b was now owed owed' n view same owes = ledger_same k k' b b was now owed owed' refl same owes ∙ ap (λ (m : LedgerView K). over k' m) view
seen_same (Err e) k k' b was now owed owed' n view same owes = tt

pub seen_stops : {K X : Type 0} (r : Result X NodeRefused) (k k' : K) (b : Files) (was now : Past) (owed owed' : List OwedLine) (n : LedgerView K) → ledger_of k b was owed ≡ n → IfErr r (λ e. FailsAtScripts e was now) → owed' ≡ owed
    → IfErr r (λ e. StopsBefore e n (ledger_of k' b now owed'))
seen_stops (Ok x) k k' b was now owed owed' n view fails owes = tt
seen_stops {K} (Err e) k k' b was now owed owed' n view fails owes = record {
  call = fails.call;
  scripts = fails.scripts;
  refused = subst (λ (m : LedgerView K). RefusesFor Script e fails.call m (ledger_of k' b now owed')) view
      (ledger_failed Script e fails.call k k' b b was now owed owed' refl fails.fails (owes ∙ sym (refused_stay e fails.call owed)));
}

pub seen_gained : {K : Type 0} (r : Result (Unit {0}) NodeRefused) (k k' : K) (b : Files) (was now : Past) (owed owed' : List OwedLine) (n : LedgerView K) (key : List ℕ) (size : ℕ) → ledger_of k b was owed ≡ n → OnOk r (AddsTo (Gain Script size key) [] was now) → owed' ≡ owed
    → OnOk r (ledger_of k' b now owed' ≡ with_gain n k' key size)
seen_gained {K} (Ok x) k k' b was now owed owed' n key size view adds owes = ledger_adds k k' b b b was now owed owed' (Gain Script size key) [] refl adds owes ∙ ap (λ (m : LedgerView K). with_gain m k' key size) view
seen_gained (Err e) k k' b was now owed owed' n key size view adds owes = tt

-- of a call that a script's step makes
pub grows_brought : {X : Type 0} (r : Result X NodeRefused) (was now : Past) → OnOk r (SamePast was now) → IfErr r (λ e. FailsAtScripts e was now) → Grows was now
grows_brought (Ok x) was now same fails = grows_same was now same
grows_brought (Err e) was now same fails = grows_failed Script e fails.call was now fails.fails

pub refused_same : {X : Type 0} (r : Result X NodeRefused) (call : Call) (owed owed' : List OwedLine) → owed' ≡ owed → IfErr r (λ e. owed' ≡ owed_refused Script e call owed)
refused_same (Ok x) call owed owed' owes = tt
refused_same (Err e) call owed owed' owes = owes ∙ sym (refused_stay e call owed)

-- a stop of a step that first looks whether the content is there, of ledgers
abbrev pub LedgerStops : {K : Type 0} → List ℕ → List ℕ → Rows → Option Contents → Option Parts → Option Parts → Failing → Failing → NodeRefused → LedgerView K → LedgerView K → Type 0
LedgerStops key bytes rows cs ps ps' failing failing' e was now = (taken : Bool) × IsTaken taken cs rows key × StopsWhere (to_place_part taken) key bytes ps ps' failing failing' e (λ call. RefusesSo e call was now)

pub seen_told : {K X : Type 0} (r : Result X NodeRefused) (k k' : K) (b : Files) (was now : Past) (owed owed' : List OwedLine) (key bytes : List ℕ) (rows : Rows) (cs : Option Contents) (ps ps' : Option Parts) (failing failing' : Failing)
    → IfErr r (λ e. StopsTold key bytes rows cs ps ps' failing failing' e was now) → owed' ≡ owed
    → IfErr r (λ e. LedgerStops key bytes rows cs ps ps' failing failing' e (ledger_of k b was owed) (ledger_of k' b now owed'))
seen_told (Ok x) k k' b was now owed owed' key bytes rows cs ps ps' failing failing' stops owes = tt
seen_told (Err e) k k' b was now owed owed' key bytes rows cs ps ps' failing failing' stops owes = (
  stops.0,
  stops.1,
  record {
    call = stops.2.call;
    early = stops.2.early;
    calls = stops.2.calls;
    fails = ledger_failed Script e stops.2.call k k' b b was now owed owed' refl stops.2.fails (owes ∙ sym (refused_stay e stops.2.call owed));
    parts = stops.2.parts;
  },
)
