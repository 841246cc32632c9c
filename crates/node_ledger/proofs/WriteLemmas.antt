-- A ledger after a file of its branch was written, or wasn't.
use Rattle.std.proofs.Common.{◌≡◌, ℕ, Bool, true, List, [], ◌+◌, Option, Some, option_map, sym, ap, ◌∙◌, ◌≢◌, false, if◌then◌else◌, Result, Ok, Err, OnOk, OnErr, IfErr, bytes_eq, subst}
use Rattle.std.specs.Option.{unwrap_or}
use Rattle.union_merge.specs.Branch.{Files, lines_at, file_at, or_none, with_file}
use Rattle.run_data.specs.declared.entry.Entry.{Entry}
use Rattle.run_data.specs.declared.entry.EntryKind.{EntryKind}
use Rattle.run_data.specs.declared.entry.EntryKind.TheVariants.{Fault}
use Rattle.run_data.specs.declared.entry.By.{By}
use Rattle.node_model.specs.Clocks.{ClockSet}
use Rattle.node_model.specs.OwedLines.{OwedLine}
use Rattle.node_past.specs.declared.setup.Setup.{Setup}
use Rattle.node_ledger.specs.Ledgers.{owed_now, HasFiles, with_entry, LedgerView}
use Rattle.node_past.specs.Owing.{AreDebts, owed_refused, rest_if}
use Rattle.annex_base.specs.declared.kinds.Call.{Call}
use Rattle.annex_base.proofs.Conditions.{by_test, bytes_eq-true, bytes_eq-refl}
use Rattle.annex_base.proofs.Options.{map_some}
use Rattle.object_store.specs.Stores.{Files as StoredFiles, bytes_of, with_at}
use Rattle.union_merge.specs.LineSet.{text_of}
use Rattle.node_past.specs.declared.past.Past.{Past}
use Rattle.node_past.specs.declared.refused.NodeRefused.{NodeRefused}
use Rattle.node_past.specs.declared.refused.NodeRefused.TheVariants as refusals
use Rattle.node_past.specs.declared.setup.Ended.{Ended}
use Rattle.owed_lines.specs.declared.debt.Debt.{Debt}
use Rattle.store_entries.specs.Changes.{changed_file}
use Rattle.store_entries.specs.declared.changing.Change.{Change}
use Rattle.node_past.specs.Pasts.{AddsTo, FailsFor, SamePast}
use Rattle.node_ledger.specs.Refusals.{RefusesFor}

-- ---- a ledger by its fields

abbrev pub ledger_of : {K : Type 0} → K → Files → Past → List OwedLine → LedgerView K
ledger_of keeper branch p owed = record { setup = p.setup; keeper = keeper; parts = tt; branch = branch; time = p.time; count = p.count; clock = p.clock; history = p.history.items; outcomes = p.outcomes.items; owed = owed }

-- the same without a store
abbrev pub storeless : Files → Past → List OwedLine → LedgerView (Unit {0})
storeless branch p owed = ledger_of tt branch p owed

-- ---- the files of the store

not_same : (x y : List ℕ) → bytes_eq x y ≡ false → y ≢ x
not_same x y differ same = let equal : bytes_eq x y ≡ true = subst (λ (w : List ℕ). bytes_eq x w ≡ true) (sym same) (bytes_eq-refl x) in absurd cc

pub files_written : (r : Result (Unit {0}) NodeRefused) (branch branch' : Files) (stored stored' : Option StoredFiles) (path : List ℕ) (all : List (List ℕ))
    → file_at (with_file branch path all) path ≡ Some all
    → ((p : List ℕ) → p ≢ path → lines_at (with_file branch path all) p ≡ lines_at branch p)
    → OnOk r (branch' ≡ with_file branch path all) → OnErr r (branch' ≡ branch)
    → OnOk r (stored' ≡ option_map (λ f. with_at f path (Some (text_of all))) stored) → OnErr r (stored' ≡ stored)
    → HasFiles stored branch → HasFiles stored' branch'
files_written (Ok x) branch branch' stored stored' path all there other is stays puts keeps has = λ f' told p.
    let found = map_some stored (λ (f : StoredFiles). with_at f path (Some (text_of all))) f' (sym puts ∙ told) in
    let before : bytes_of found.0 p ≡ text_of (lines_at branch p) = has found.0 found.1 p in
    let now : bytes_of f' p ≡ bytes_of (with_at found.0 path (Some (text_of all))) p = ap (λ (f : StoredFiles). bytes_of f p) (sym found.2) in
    now ∙ by_test (bytes_eq path p)
    (λ b. ap (λ (c : Bool). unwrap_or (if c then Some (text_of all) else found.0 p) []) b
    ∙ ap text_of (sym (ap or_none (ap (λ (q : List ℕ). file_at (with_file branch path all) q) (sym (bytes_eq-true path p b)) ∙ there)))
    ∙ ap (λ (w : Files). text_of (lines_at w p)) (sym is))
    (λ b. ap (λ (c : Bool). unwrap_or (if c then Some (text_of all) else found.0 p) []) b
    ∙ before ∙ ap text_of (sym (other p (not_same path p b)))
    ∙ ap (λ (w : Files). text_of (lines_at w p)) (sym is))
files_written (Err e) branch branch' stored stored' path all there other is stays puts keeps has = λ f' told p.
    has f' (sym keeps ∙ told) p ∙ ap (λ (w : Files). text_of (lines_at w p)) (sym stays)

-- ---- what clauses see

ledger_fields : {K : Type 0} (k : K) (b b' : Files) (s s' : Setup) (time time' count count' : ℕ) (t t' : ClockSet) (h h' : List Entry) (o o' : List Ended) (w w' : List OwedLine)
    → b' ≡ b → s' ≡ s → time' ≡ time → count' ≡ count → t' ≡ t → h' ≡ h → o' ≡ o → w' ≡ w
    → ◌≡◌ {A = LedgerView K} (record { setup = s'; keeper = k; parts = tt; branch = b'; time = time'; count = count'; clock = t'; history = h'; outcomes = o'; owed = w' })
    (record { setup = s; keeper = k; parts = tt; branch = b; time = time; count = count; clock = t; history = h; outcomes = o; owed = w })
ledger_fields {K} k b b' s s' time time' count count' t t' h h' o o' w w' eb es em ec et eh eo ew =
    let f1 : Files → LedgerView K = λ x. record { setup = s'; keeper = k; parts = tt; branch = x; time = time'; count = count'; clock = t'; history = h'; outcomes = o'; owed = w' } in
    let f2 : Setup → LedgerView K = λ x. record { setup = x; keeper = k; parts = tt; branch = b; time = time'; count = count'; clock = t'; history = h'; outcomes = o'; owed = w' } in
    let f3 : ℕ → LedgerView K = λ x. record { setup = s; keeper = k; parts = tt; branch = b; time = x; count = count'; clock = t'; history = h'; outcomes = o'; owed = w' } in
    let f4 : ℕ → LedgerView K = λ x. record { setup = s; keeper = k; parts = tt; branch = b; time = time; count = x; clock = t'; history = h'; outcomes = o'; owed = w' } in
    let f5 : ClockSet → LedgerView K = λ x. record { setup = s; keeper = k; parts = tt; branch = b; time = time; count = count; clock = x; history = h'; outcomes = o'; owed = w' } in
    let f6 : List Entry → LedgerView K = λ x. record { setup = s; keeper = k; parts = tt; branch = b; time = time; count = count; clock = t; history = x; outcomes = o'; owed = w' } in
    let f7 : List Ended → LedgerView K = λ x. record { setup = s; keeper = k; parts = tt; branch = b; time = time; count = count; clock = t; history = h; outcomes = x; owed = w' } in
    let f8 : List OwedLine → LedgerView K = λ x. record { setup = s; keeper = k; parts = tt; branch = b; time = time; count = count; clock = t; history = h; outcomes = o; owed = x } in
    ap f1 eb ∙ ap f2 es ∙ ap f3 em ∙ ap f4 ec ∙ ap f5 et ∙ ap f6 eh ∙ ap f7 eo ∙ ap f8 ew

pub ledger_adds : {K : Type 0} (k k' : K) (b b' all : Files) (was now : Past) (owed owed' : List OwedLine) (kind : EntryKind) (lines : List (List ℕ)) → b' ≡ all → AddsTo kind lines was now → owed' ≡ owed_now (storeless b was owed) kind lines
    → ledger_of k' b' now owed' ≡ with_entry (ledger_of k b was owed) k' all kind lines
ledger_adds k k' b b' all was now owed owed' kind lines is adds owes =
    ledger_fields k' all b' was.setup now.setup was.time now.time (was.count + 1) now.count was.clock now.clock _ now.history.items was.outcomes.items now.outcomes.items _ owed' is adds.setup adds.time adds.count adds.clock adds.history adds.outcomes owes

pub ledger_same : {K : Type 0} (k k' : K) (b b' : Files) (was now : Past) (owed owed' : List OwedLine) → b' ≡ b → SamePast was now → owed' ≡ owed
    → ledger_of k' b' now owed' ≡ record (ledger_of k b was owed) { keeper = k' }
ledger_same k k' b b' was now owed owed' is same owes =
    ledger_fields k' b b' was.setup now.setup was.time now.time was.count now.count was.clock now.clock was.history.items now.history.items was.outcomes.items now.outcomes.items owed owed' is same.setup same.time same.count same.clock same.history same.outcomes owes

pub ledger_failed : {K : Type 0} (by : By) (e : NodeRefused) (call : Call) (k k' : K) (b b' : Files) (was now : Past) (owed owed' : List OwedLine) → b' ≡ b → FailsFor by e call was now → owed' ≡ owed_refused by e call owed
    → RefusesFor by e call (ledger_of k b was owed) (ledger_of k' b' now owed')
ledger_failed by refusals.Full call k k' b b' was now owed owed' is fails owes = (ledger_same k k' b b' was now owed owed' is fails.0 owes, sym was.history.ok.0 ∙ fails.1)
ledger_failed by refusals.StoreFault call k k' b b' was now owed owed' is fails owes = ledger_adds k k' b b' b was now owed owed' (Fault call by) [] is fails owes
ledger_failed by (refusals.BadBundle at) call k k' b b' was now owed owed' is fails owes = absurd fails
ledger_failed by refusals.NoMemory call k k' b b' was now owed owed' is fails owes = ledger_same k k' b b' was now owed owed' is fails owes

pub ledger_written : {K : Type 0} (r : Result (Unit {0}) NodeRefused) (k k' : K) (b b' all : Files) (was now : Past) (owed owed' : List OwedLine) (kind : EntryKind) (lines : List (List ℕ))
    → OnOk r (b' ≡ all) → OnOk r (AddsTo kind lines was now) → OnOk r (owed' ≡ owed_now (storeless b was owed) kind lines)
    → OnOk r (ledger_of k' b' now owed' ≡ with_entry (ledger_of k b was owed) k' all kind lines)
ledger_written (Ok x) k k' b b' all was now owed owed' kind lines is adds owes = ledger_adds k k' b b' all was now owed owed' kind lines is adds owes
ledger_written (Err e) k k' b b' all was now owed owed' kind lines is adds owes = tt

pub ledger_refused : {K : Type 0} (by : By) (r : Result (Unit {0}) NodeRefused) (call : Call) (k k' : K) (b b' : Files) (was now : Past) (owed owed' : List OwedLine)
    → OnErr r (b' ≡ b) → IfErr r (λ e. FailsFor by e call was now) → IfErr r (λ e. owed' ≡ owed_refused by e call owed)
    → IfErr r (λ e. RefusesFor by e call (ledger_of k b was owed) (ledger_of k' b' now owed'))
ledger_refused by (Ok x) call k k' b b' was now owed owed' is fails owes = tt
ledger_refused by (Err e) call k k' b b' was now owed owed' is fails owes = ledger_failed by e call k k' b b' was now owed owed' is fails owes

-- the same, of the ledger as it is seen
pub seen_written : {K : Type 0} (r : Result (Unit {0}) NodeRefused) (k k' : K) (b b' : Files) (was now : Past) (owed owed' : List OwedLine) (n : LedgerView K) (path : List ℕ) (change : Change) (kind : EntryKind) (lines : List (List ℕ))
    → ledger_of k b was owed ≡ n → OnOk r (b' ≡ changed_file b path change) → OnOk r (AddsTo kind lines was now) → OnOk r (owed' ≡ owed_now (storeless b was owed) kind lines)
    → OnOk r (ledger_of k' b' now owed' ≡ with_entry n k' (changed_file n.branch path change) kind lines)
seen_written {K} r k k' b b' was now owed owed' n path change kind lines view is adds owes =
    subst (λ (m : LedgerView K). OnOk r (ledger_of k' b' now owed' ≡ with_entry m k' (changed_file m.branch path change) kind lines)) view
    (ledger_written r k k' b b' (changed_file b path change) was now owed owed' kind lines is adds owes)

pub seen_refused : {K : Type 0} (by : By) (r : Result (Unit {0}) NodeRefused) (call : Call) (k k' : K) (b b' : Files) (was now : Past) (owed owed' : List OwedLine) (n : LedgerView K)
    → ledger_of k b was owed ≡ n → OnErr r (b' ≡ b) → IfErr r (λ e. FailsFor by e call was now) → IfErr r (λ e. owed' ≡ owed_refused by e call owed)
    → IfErr r (λ e. RefusesFor by e call n (ledger_of k' b' now owed'))
seen_refused {K} by r call k k' b b' was now owed owed' n view is fails owes =
    subst (λ (m : LedgerView K). IfErr r (λ e. RefusesFor by e call m (ledger_of k' b' now owed'))) view (ledger_refused by r call k k' b b' was now owed owed' is fails owes)

-- what is owed then, of the ledger as it is seen
pub seen_owed : {K : Type 0} (r : Result (Unit {0}) NodeRefused) (k : K) (b : Files) (was : Past) (owed owed' : List OwedLine) (n : LedgerView K) (kind : EntryKind) (lines : List (List ℕ)) (paid : Bool)
    → ledger_of k b was owed ≡ n → owed_now n kind lines ≡ rest_if paid n.owed → OnOk r (owed' ≡ rest_if paid owed) → OnOk r (owed' ≡ owed_now (storeless b was owed) kind lines)
seen_owed {K} (Ok x) k b was owed owed' n kind lines paid view pays left =
    left ∙ sym (subst (λ (m : LedgerView K). owed_now m kind lines ≡ rest_if paid m.owed) (sym view) pays)
seen_owed (Err e) k b was owed owed' n kind lines paid view pays left = tt

-- ---- before the first entry

pub no_debts : (s : Setup) (history : List Entry) (ds : List Debt) → ds ≡ [] → AreDebts s history ds
no_debts s history ds free = subst (AreDebts s history) (sym free) tt
