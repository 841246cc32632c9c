-- The lines that a node owes: what its next entry makes of them, and of what owes them.
use Rattle.std.proofs.Common.{◌≡◌, ℕ, zero, suc, ◌<◌, Bool, true, false, List, [], ◌∷◌, ◌++◌, length, drop, Option, Some, None, Result, Ok, Err, OnOk, IfErr, refl, sym, ◌∙◌, ap, subst, append_assoc}
use Rattle.std.specs.Prelude.{slice_get}
use Rattle.std.proofs.lemmas.List.{append-nil}
use Rattle.annex_base.specs.declared.kinds.Call.{Call}
use Rattle.annex_base.specs.declared.kinds.Call.TheVariants.{PutFile}
use Rattle.annex_base.proofs.Lists.{Each-append, Each-weaker}
use Rattle.run_data.specs.declared.entry.Entry.{Entry}
use Rattle.run_data.specs.declared.entry.EntryKind.{EntryKind}
use Rattle.run_data.specs.declared.entry.EntryKind.TheVariants.{Fault}
use Rattle.run_data.specs.declared.entry.By.{By}
use Rattle.run_data.specs.declared.entry.By.TheVariants.{Script, Job as by_job, Peer}
use Rattle.node_model.specs.OwedLines.{OwedLine, owed_without}
use Rattle.node_past.specs.Owing.{first_goes, is_debtor, owed_refused, AreDebts, IsDebt, owed_at, owed_by, owed_by_debt, owed_of, rest_if}
use Rattle.node_past.specs.Pasts.{AddsTo, FailsFor, SamePast}
use Rattle.node_past.specs.declared.past.Past.{Past}
use Rattle.node_past.specs.declared.refused.NodeRefused.{NodeRefused}
use Rattle.node_past.specs.declared.refused.NodeRefused.TheVariants as refusals
use Rattle.node_past.specs.declared.setup.Setup.{Setup}
use Rattle.owed_lines.specs.Lines.{line_of}
use Rattle.owed_lines.specs.declared.debt.Debt.{Debt}
use Rattle.owed_lines.specs.declared.debt.Debt.TheVariants as debts
use Rattle.owed_lines.specs.declared.line.ToldLine.{ToldLine}

-- ---- a longer history

-- the history has become longer, and the set-up is as it was
pub record Grows (was now : Past) : Type 0 where
  pub setup : now.setup ≡ was.setup
  pub more : List Entry
  pub history : now.history.items ≡ was.history.items ++ more

pub grows_same : (was now : Past) → SamePast was now → Grows was now
grows_same was now same = record { setup = same.setup; more = []; history = same.history ∙ sym (append-nil was.history.items) }

pub grows_adds : (kind : EntryKind) (lines : List (List ℕ)) (was now : Past) → AddsTo kind lines was now → Grows was now
grows_adds kind lines was now adds = record { setup = adds.setup; more = _; history = adds.history }

pub grows_failed : (by : By) (e : NodeRefused) (call : Call) (was now : Past) → FailsFor by e call was now → Grows was now
grows_failed by refusals.Full call was now fails = grows_same was now fails.0
grows_failed by refusals.StoreFault call was now fails = grows_adds (Fault call by) [] was now fails
grows_failed by (refusals.BadBundle at) call was now fails = absurd fails
grows_failed by refusals.NoMemory call was now fails = grows_same was now fails

none_one : length (owed_of 0 None) ≡ 1 → ⊥
none_one one = absurd cc

at_more : (r : ℕ) (h more : List Entry) (place : ℕ) → length (owed_of r (slice_get h place)) ≡ 1 → slice_get (h ++ more) place ≡ slice_get h place
at_more r [] more place one = absurd (none_one one)
at_more r (x ∷ h) more zero one = refl
at_more r (x ∷ h) more (suc place) one = at_more r h more place one

-- ---- a debt

-- it is one line
pub debt_owes : (s : Setup) (h : List Entry) (d : Debt) → IsDebt s h d → length (owed_by_debt s.number h d) ≡ 1
debt_owes s h (debts.Entry place) is = is
debt_owes s h (debts.Told t) is = refl

debt_same : (s : Setup) (h more : List Entry) (d : Debt) → IsDebt s h d → owed_by_debt s.number (h ++ more) d ≡ owed_by_debt s.number h d
debt_same s h more (debts.Entry place) is = ap (owed_of s.number) (at_more s.number h more place is)
debt_same s h more (debts.Told t) is = refl

debt_more : (s : Setup) (h more : List Entry) (d : Debt) → IsDebt s h d → IsDebt s (h ++ more) d
debt_more s h more (debts.Entry place) is = ap (λ (e : Option Entry). length (owed_of s.number e)) (at_more s.number h more place is) ∙ is
debt_more s h more (debts.Told t) is = is

-- ---- debts

at_same : (s : Setup) (h more : List Entry) (ds : List Debt) → AreDebts s h ds → owed_at s.number (h ++ more) ds ≡ owed_at s.number h ds
at_same s h more [] are = refl
at_same s h more (d ∷ ds) are =
    ap (λ (os : List OwedLine). os ++ owed_at s.number (h ++ more) ds) (debt_same s h more d are.0)
    ∙ ap (λ (os : List OwedLine). owed_by_debt s.number h d ++ os) (at_same s h more ds are.1)

debts_more : (s : Setup) (h more : List Entry) (ds : List Debt) → AreDebts s h ds → AreDebts s (h ++ more) ds
debts_more s h more ds are = Each-weaker (IsDebt s h) (IsDebt s (h ++ more)) (debt_more s h more) ds are

pub debts_rest : (s : Setup) (h : List Entry) (b : Bool) (ds : List Debt) → AreDebts s h ds → AreDebts s h (rest_if b ds)
debts_rest s h false ds are = are
debts_rest s h true [] are = are
debts_rest s h true (d ∷ ds) are = are.1

drop_one : (xs ys : List OwedLine) → length xs ≡ 1 → drop 1 (xs ++ ys) ≡ ys
drop_one [] ys one = absurd cc
drop_one (x ∷ []) ys one = refl
drop_one (x ∷ y ∷ xs) ys one = absurd cc

pub owed_rest : (s : Setup) (h : List Entry) (b : Bool) (ds : List Debt) → AreDebts s h ds → owed_at s.number h (rest_if b ds) ≡ rest_if b (owed_at s.number h ds)
owed_rest s h false ds are = refl
owed_rest s h true [] are = refl
owed_rest s h true (d ∷ ds) are = sym (drop_one (owed_by_debt s.number h d) (owed_at s.number h ds) (debt_owes s h d are.0))

no_head : (xs ys : List OwedLine) → length xs ≡ 1 → xs ++ ys ≡ [] → ⊥
no_head [] ys one none = absurd cc
no_head (x ∷ xs) ys one none = absurd cc

-- where nothing is owed, there is none
pub no_debts : (s : Setup) (h : List Entry) (ds : List Debt) → AreDebts s h ds → owed_at s.number h ds ≡ [] → ds ≡ []
no_debts s h [] are none = refl
no_debts s h (d ∷ ds) are none = absurd (no_head (owed_by_debt s.number h d) (owed_at s.number h ds) (debt_owes s h d are.0) none)

pub owed_both : (r : ℕ) (h : List Entry) (ds more : List Debt) → owed_at r h (ds ++ more) ≡ owed_at r h ds ++ owed_at r h more
owed_both r h [] more = refl
owed_both r h (d ∷ ds) more =
    ap (λ (os : List OwedLine). owed_by_debt r h d ++ os) (owed_both r h ds more)
    ∙ sym (append_assoc (owed_by_debt r h d) (owed_at r h ds) (owed_at r h more))

-- ---- those of the last entry

pub last_entry : (h : List Entry) (e : Entry) → slice_get (h ++ e ∷ []) (length h) ≡ Some e
last_entry [] e = refl
last_entry (x ∷ h) e = last_entry h e

-- by the entry itself
pub entry_owes : (r : ℕ) (h : List Entry) (e : Entry) → owed_at r (h ++ e ∷ []) (debts.Entry (length h) ∷ []) ≡ owed_by r e.kind
entry_owes r h e = ap (λ (o : Option Entry). owed_of r o ++ []) (last_entry h e) ∙ append-nil (owed_by r e.kind)

pub entry_debt : (s : Setup) (h : List Entry) (e : Entry) → length (owed_by s.number e.kind) ≡ 1 → AreDebts s (h ++ e ∷ []) (debts.Entry (length h) ∷ [])
entry_debt s h e one = (ap (λ (o : Option Entry). length (owed_of s.number o)) (last_entry h e) ∙ one, tt)

-- since its job was told so
pub told_owes : (r : ℕ) (h : List Entry) (t : ToldLine) → owed_at r h (debts.Told t ∷ []) ≡ line_of t ∷ []
told_owes r h t = refl

pub told_debt : (s : Setup) (h : List Entry) (t : ToldLine) → t.repo < length s.repos → AreDebts s h (debts.Told t ∷ [])
told_debt s h t there = (there, tt)

-- ---- of a past

abbrev pub owed_in : Past → List Debt → List OwedLine
owed_in p ds = owed_at p.setup.number p.history.items ds

abbrev pub DebtsIn : Past → List Debt → Type 0
DebtsIn p ds = AreDebts p.setup p.history.items ds

pub debts_grow : (was now : Past) (ds : List Debt) → Grows was now → DebtsIn was ds → DebtsIn now ds
debts_grow was now ds grows are =
    subst (λ (h : List Entry). AreDebts now.setup h ds) (sym grows.history)
    (debts_more now.setup was.history.items grows.more ds (subst (λ (s : Setup). AreDebts s was.history.items ds) (sym grows.setup) are))

pub owed_grows : (was now : Past) (ds : List Debt) → Grows was now → DebtsIn was ds → owed_in now ds ≡ owed_in was ds
owed_grows was now ds grows are =
    ap (λ (h : List Entry). owed_at now.setup.number h ds) grows.history
    ∙ ap (λ (s : Setup). owed_at s.number (was.history.items ++ grows.more) ds) grows.setup
    ∙ at_same was.setup was.history.items grows.more ds are

-- with these at their end
pub owed_added : (was now : Past) (ds new : List Debt) → Grows was now → DebtsIn was ds → owed_in now (ds ++ new) ≡ owed_in was ds ++ owed_in now new
owed_added was now ds new grows are =
    owed_both now.setup.number now.history.items ds new ∙ ap (λ (os : List OwedLine). os ++ owed_in now new) (owed_grows was now ds grows are)

pub debts_added : (was now : Past) (ds new : List Debt) → Grows was now → DebtsIn was ds → DebtsIn now new → DebtsIn now (ds ++ new)
debts_added was now ds new grows are more = Each-append (IsDebt now.setup now.history.items) ds new (debts_grow was now ds grows are) more

-- with the first gone, if so
pub owed_left : (was now : Past) (b : Bool) (ds ds' : List Debt) → Grows was now → ds' ≡ rest_if b ds → DebtsIn was ds → owed_in now ds' ≡ rest_if b (owed_in was ds)
owed_left was now b ds ds' grows left are =
    ap (owed_in now) left
    ∙ owed_grows was now (rest_if b ds) grows (debts_rest was.setup was.history.items b ds are)
    ∙ owed_rest was.setup was.history.items b ds are

pub debts_left : (was now : Past) (b : Bool) (ds ds' : List Debt) → Grows was now → ds' ≡ rest_if b ds → DebtsIn was ds → DebtsIn now ds'
debts_left was now b ds ds' grows left are =
    subst (DebtsIn now) (sym left) (debts_grow was now (rest_if b ds) grows (debts_rest was.setup was.history.items b ds are))

-- ---- refusals

pub scripts_stay : (call : Call) (os : List OwedLine) → owed_without call Script os ≡ os
scripts_stay PutFile os = refl
scripts_stay _ os = refl

pub refused_stay : (e : NodeRefused) (call : Call) (os : List OwedLine) → owed_refused Script e call os ≡ os
refused_stay refusals.StoreFault call os = scripts_stay call os
refused_stay refusals.Full call os = refl
refused_stay (refusals.BadBundle at) call os = refl
refused_stay refusals.NoMemory call os = refl

debtor_is : (by : By) (os : List OwedLine) → owed_without PutFile by os ≡ rest_if (is_debtor by) os
debtor_is Script os = refl
debtor_is (by_job job) os = refl
debtor_is (Peer peer slot) os = refl

refused_is : (paid : Bool) (by : By) (e : NodeRefused) (os : List OwedLine) → rest_if (first_goes paid by (Err e)) os ≡ owed_refused by e PutFile os
refused_is paid by refusals.StoreFault os = sym (debtor_is by os)
refused_is paid by refusals.Full os = refl
refused_is paid by (refusals.BadBundle at) os = refl
refused_is paid by refusals.NoMemory os = refl

-- ---- a file that was written, or wasn't

pub write_grows : (by : By) (r : Result (Unit {0}) NodeRefused) (call : Call) (kind : EntryKind) (lines : List (List ℕ)) (was now : Past) → OnOk r (AddsTo kind lines was now) → IfErr r (λ e. FailsFor by e call was now) → Grows was now
write_grows by (Ok x) call kind lines was now adds fails = grows_adds kind lines was now adds
write_grows by (Err e) call kind lines was now adds fails = grows_failed by e call was now fails

pub owed_written : (paid : Bool) (by : By) (r : Result (Unit {0}) NodeRefused) (was now : Past) (ds ds' : List Debt) → Grows was now → ds' ≡ rest_if (first_goes paid by r) ds → DebtsIn was ds → OnOk r (owed_in now ds' ≡ rest_if paid (owed_in was ds))
owed_written paid by (Ok x) was now ds ds' grows left are = owed_left was now paid ds ds' grows left are
owed_written paid by (Err e) was now ds ds' grows left are = tt

pub owed_unwritten : (paid : Bool) (by : By) (r : Result (Unit {0}) NodeRefused) (was now : Past) (ds ds' : List Debt) → Grows was now → ds' ≡ rest_if (first_goes paid by r) ds → DebtsIn was ds → IfErr r (λ e. owed_in now ds' ≡ owed_refused by e PutFile (owed_in was ds))
owed_unwritten paid by (Ok x) was now ds ds' grows left are = tt
owed_unwritten paid by (Err e) was now ds ds' grows left are =
    owed_left was now (first_goes paid by (Err e)) ds ds' grows left are ∙ refused_is paid by e (owed_in was ds)
