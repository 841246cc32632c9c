-- The lines that a ledger owes, the entries that pay them, and what these are due.
use Rattle.std.proofs.Common.{◌≡◌, ℕ, ◌<◌, ◌+◌, Bool, true, false, ◌&&◌, List, [], ◌∷◌, ◌++◌, length, drop, Option, Some, None, Result, Ok, Err, OnOk, IfOk, IfErr, IfSome, bytes_eq, refl, ◌∙◌, sym, ap, subst}
use Rattle.std.specs.Prelude.{slice_get, option_to_list}
use Rattle.std.proofs.lemmas.Option.{none-some}
use Rattle.annex_base.specs.declared.kinds.Call.TheVariants.{PutFile}
use Rattle.annex_base.proofs.Conditions.{bytes_eq-refl}
use Rattle.hash_dirs.specs.LogPath.{location_path}
use Rattle.run_data.specs.Files.{file_path}
use Rattle.run_data.specs.declared.entry.By.{By}
use Rattle.run_data.specs.declared.entry.Entry.{Entry}
use Rattle.run_data.specs.declared.entry.EntryKind.TheVariants.{Log}
use Rattle.run_data.specs.declared.entry.LogFile.{LogFile}
use Rattle.run_data.specs.declared.entry.LogFile.TheVariants.{Location}
use Rattle.union_merge.specs.Branch.{Files, lines_at, merged_file}
use Rattle.node_model.specs.OwedLines.{OwedLine, due, if_new, same_lines, status_line}
use Rattle.store_entries.specs.Changes.{AreNew}
use Rattle.node_ledger.specs.Debts.{IsDraftOf, IsFirstDraft, with_status}
use Rattle.node_ledger.specs.declared.owed.Draft.{Draft}
use Rattle.node_ledger.specs.declared.owed.Due.{Due}
use Rattle.node_ledger.specs.Ledgers.{are_due, due_by, id_known, with_entry, LedgerView}
use Rattle.node_past.specs.Owing.{AreDebts, IsDebt, IsFirstOf, is_owing, owed_at, owed_by_debt, rest_if}
use Rattle.node_past.specs.declared.setup.Setup.{Setup}
use Rattle.node_past.proofs.OwedLemmas.{debt_owes}
use Rattle.node_ledger.specs.Refusals.{RefusesFor}
use Rattle.node_past.specs.declared.refused.NodeRefused.{NodeRefused}
use Rattle.owed_lines.specs.declared.debt.Debt.{Debt}
use Rattle.store_entries.proofs.ChangeLemmas.{if_new_new}

none_one : ◌≡◌ {A = ℕ} 0 1 → ⊥
none_one one = absurd cc

some_debt : (d x : Debt) → Some d ≡ Some x → d ≡ x
some_debt d x is = cc

cons_same : (d o : OwedLine) (ds os : List OwedLine) → d ∷ ds ≡ o ∷ os → d ≡ o
cons_same d o ds os is = cc

-- ---- the first line that is owed

one_first : (o : Option OwedLine) (xs ys : List OwedLine) → option_to_list o ≡ xs → length xs ≡ 1 → IsFirstOf o (xs ++ ys)
one_first None xs ys is one = absurd (none_one (ap (λ (w : List OwedLine). length w) is ∙ one))
one_first (Some o) xs ys is one = subst (λ (w : List OwedLine). w ++ ys ≡ o ∷ drop 1 (w ++ ys)) is refl

pub first_some : (s : Setup) (h : List Entry) (ds : List Debt) (d : Debt) (o : Option OwedLine) → slice_get ds 0 ≡ Some d → option_to_list o ≡ owed_by_debt s.number h d → AreDebts s h ds → IsFirstOf o (owed_at s.number h ds)
first_some s h [] d o at is are = absurd (none-some d at)
first_some s h (x ∷ ds) d o at is are =
    one_first o (owed_by_debt s.number h x) (owed_at s.number h ds) (is ∙ ap (owed_by_debt s.number h) (sym (some_debt x d at))) (debt_owes s h x are.0)

pub first_none : (r : ℕ) (h : List Entry) (ds : List Debt) → slice_get ds 0 ≡ None → owed_at r h ds ≡ []
first_none r h [] at = refl
first_none r h (d ∷ ds) at = absurd (none-some d (sym at))

pub first_is : (s : Setup) (h : List Entry) (ds : List Debt) (d : Debt) → slice_get ds 0 ≡ Some d → AreDebts s h ds → IsDebt s h d
first_is s h [] d at are = absurd (none-some d at)
first_is s h (x ∷ ds) d at are = subst (IsDebt s h) (some_debt x d at) are.0

-- of the repository itself
pub own_among : (o : Option Due) (number count : ℕ) → IfSome o (λ d. d.repo ≡ number) → number < count → IfSome o (λ d. d.repo < count)
own_among None number count own there = tt
own_among (Some d) number count own there = subst (λ (r : ℕ). r < count) (sym own) there

one_owing : (xs ys : List OwedLine) → length xs ≡ 1 → true ≡ is_owing (xs ++ ys)
one_owing [] ys one = absurd (none_one one)
one_owing (x ∷ xs) ys one = refl

pub some_owing : (s : Setup) (h : List Entry) (ds : List Debt) (d : Debt) → slice_get ds 0 ≡ Some d → AreDebts s h ds → true ≡ is_owing (owed_at s.number h ds)
some_owing s h [] d at are = absurd (none-some d at)
some_owing s h (x ∷ ds) d at are = one_owing (owed_by_debt s.number h x) (owed_at s.number h ds) (debt_owes s h x are.0)

pub none_owing : (r : ℕ) (h : List Entry) (ds : List Debt) → slice_get ds 0 ≡ None → false ≡ is_owing (owed_at r h ds)
none_owing r h ds at = ap is_owing (sym (first_none r h ds at))

same_self : (xs : List (List ℕ)) → same_lines xs xs ≡ true
same_self [] = refl
same_self (x ∷ xs) = ap (λ (b : Bool). b && same_lines xs xs) (bytes_eq-refl x) ∙ same_self xs

-- lines of a file are what the first owed line is due, or aren't
pub due_first : {K E : Type 0} (r : Result Bool E) (n : LedgerView K) (file : LogFile) (path : List ℕ) (lines : List (List ℕ)) (o : OwedLine) → path ≡ file_path file → n.owed ≡ o ∷ drop 1 n.owed
    → IfOk r (λ b. b ≡ (bytes_eq path (location_path o.key) && same_lines lines (due_by n o.key o.repo o.there))) → IfOk r (λ b. b ≡ are_due n file lines n.owed)
due_first {K} (Ok b) n file path lines o here first is =
    is ∙ ap (λ (p : List ℕ). bytes_eq p (location_path o.key) && same_lines lines (due_by n o.key o.repo o.there)) here ∙ ap (are_due n file lines) (sym first)
due_first (Err e) n file path lines o here first is = tt

-- what it is due is due
due_paid : {K : Type 0} (n : LedgerView K) (o : OwedLine) (os : List OwedLine) → are_due n (Location o.key) (due_by n o.key o.repo o.there) (o ∷ os) ≡ true
due_paid n o os =
    ap (λ (b : Bool). b && same_lines (due_by n o.key o.repo o.there) (due_by n o.key o.repo o.there)) (bytes_eq-refl (location_path o.key))
    ∙ same_self (due_by n o.key o.repo o.there)

pub pays_due : {K : Type 0} (n : LedgerView K) (file : LogFile) (new : List (List ℕ)) (o : OwedLine) → file ≡ Location o.key → new ≡ due_by n o.key o.repo o.there → n.owed ≡ o ∷ drop 1 n.owed → true ≡ are_due n file new n.owed
pays_due n file new o is due first =
    sym (ap (λ (f : LogFile). are_due n f new n.owed) is ∙ ap (λ (w : List (List ℕ)). are_due n (Location o.key) w n.owed) due
    ∙ ap (are_due n (Location o.key) (due_by n o.key o.repo o.there)) first ∙ due_paid n o (drop 1 n.owed))

-- what is due, by the parts of the node
pub ok_due : {K E : Type 0} (r : Result (List (List ℕ)) E) (n : LedgerView K) (branch : Files) (key path line id : List ℕ) (repo : ℕ) (there : Bool) → path ≡ location_path key → branch ≡ n.branch → id ≡ id_known n repo
    → line ≡ status_line (lines_at branch path) id there (n.time + n.setup.offset) → IfOk r (λ s. s ≡ if_new (lines_at branch path) line) → IfOk r (λ s. s ≡ due_by n key repo there)
ok_due {K} (Ok s) n branch key path line id repo there here same known text new =
    let clock : ℕ = n.time + n.setup.offset in
    let lacks : Files → List ℕ → List ℕ → List (List ℕ) = λ b p i. if_new (lines_at b p) (status_line (lines_at b p) i there clock) in
    new ∙ ap (λ (l : List ℕ). if_new (lines_at branch path) l) text
    ∙ ap (λ (b : Files). lacks b path id) same ∙ ap (λ (p : List ℕ). lacks n.branch p id) here ∙ ap (λ (i : List ℕ). lacks n.branch (location_path key) i) known
ok_due (Err e) n branch key path line id repo there here same known text new = tt

-- ---- the repository with such a line

-- a log entry with what the log lacks of the status is that of the status
pub ok_status : {K : Type 0} (r : Result (Unit {0}) NodeRefused) (n m : LedgerView K) (key : List ℕ) (repo : ℕ) (there : Bool) (file : LogFile) (new : List (List ℕ)) → file ≡ Location key → new ≡ due_by n key repo there
    → OnOk r (m ≡ with_entry n m.keeper (merged_file n.branch (file_path file) new) (Log file) new) → OnOk r (m ≡ with_status n m.keeper key repo there)
ok_status {K} (Ok x) n m key repo there file new is due ok =
    ok ∙ ap (λ (f : LogFile). with_entry n m.keeper (merged_file n.branch (file_path f) new) (Log f) new) is
    ∙ ap (λ (ls : List (List ℕ)). with_entry n m.keeper (merged_file n.branch (location_path key) ls) (Log (Location key)) ls) due
ok_status (Err e) n m key repo there file new is due ok = tt

paid_rest : {K : Type 0} (r : Result (Unit {0}) NodeRefused) (n m : LedgerView K) (o : OwedLine) (os : List OwedLine) → n.owed ≡ o ∷ os → OnOk r (m ≡ with_status n m.keeper o.key o.repo o.there) → OnOk r (m.owed ≡ os)
paid_rest {K} (Ok x) n m o os is ok =
    ap (λ (v : LedgerView K). v.owed) ok
    ∙ ap (λ (w : List OwedLine). rest_if (are_due n (Location o.key) (due_by n o.key o.repo o.there) w) w) is
    ∙ ap (λ (b : Bool). rest_if b (o ∷ os)) (due_paid n o os)
paid_rest (Err e) n m o os is ok = tt

-- ---- the draft of the first line

pub ok_first : {K E : Type 0} (r : Result Draft E) (n : LedgerView K) (o : OwedLine) → n.owed ≡ o ∷ drop 1 n.owed → IfOk r (λ d. IsDraftOf n o d) → IfOk r (λ d. IsFirstDraft n d)
ok_first (Ok d) n o first draft = record { owed = o; first = first; draft = draft }
ok_first (Err e) n o first draft = tt

-- the first line that is owed is this one
draft_same : {K : Type 0} (n : LedgerView K) (d : Draft) (o : OwedLine) (os : List OwedLine) → IsFirstDraft n d → n.owed ≡ o ∷ os → IsDraftOf n o d
draft_same n d o os f is = subst (λ (x : OwedLine). IsDraftOf n x d) (cons_same f.owed o (drop 1 n.owed) os (sym f.first ∙ is)) f.draft

ok_drafted : {K : Type 0} (r : Result (Unit {0}) NodeRefused) (n m : LedgerView K) (d : Draft) (o : OwedLine) → IsDraftOf n o d
    → OnOk r (m ≡ with_entry n m.keeper (merged_file n.branch (file_path d.file) d.new) (Log d.file) d.new) → OnOk r (m ≡ with_status n m.keeper o.key o.repo o.there)
ok_drafted r n m d o draft ok = ok_status r n m o.key o.repo o.there d.file d.new draft.file draft.new ok

err_drafted : {K : Type 0} (r : Result (Unit {0}) NodeRefused) (n m : LedgerView K) (d : Draft) (o : OwedLine) → IsDraftOf n o d → IfErr r (λ e. RefusesFor d.by e PutFile n m) → IfErr r (λ e. RefusesFor o.by e PutFile n m)
err_drafted r n m d o draft err = subst (λ (by : By). IfErr r (λ e. RefusesFor by e PutFile n m)) draft.by err

pub ok_paid : {K : Type 0} (r : Result (Unit {0}) NodeRefused) (n m : LedgerView K) (d : Draft) (o : OwedLine) (os : List OwedLine) → IsFirstDraft n d → n.owed ≡ o ∷ os
    → OnOk r (m ≡ with_entry n m.keeper (merged_file n.branch (file_path d.file) d.new) (Log d.file) d.new) → OnOk r (m ≡ with_status n m.keeper o.key o.repo o.there)
ok_paid r n m d o os f is ok = ok_drafted r n m d o (draft_same n d o os f is) ok

pub rest_paid : {K : Type 0} (r : Result (Unit {0}) NodeRefused) (n m : LedgerView K) (d : Draft) (o : OwedLine) (os : List OwedLine) → IsFirstDraft n d → n.owed ≡ o ∷ os
    → OnOk r (m ≡ with_entry n m.keeper (merged_file n.branch (file_path d.file) d.new) (Log d.file) d.new) → OnOk r (m.owed ≡ os)
rest_paid r n m d o os f is ok = paid_rest r n m o os is (ok_paid r n m d o os f is ok)

pub err_paid : {K : Type 0} (r : Result (Unit {0}) NodeRefused) (n m : LedgerView K) (d : Draft) (o : OwedLine) (os : List OwedLine) → IsFirstDraft n d → n.owed ≡ o ∷ os
    → IfErr r (λ e. RefusesFor d.by e PutFile n m) → IfErr r (λ e. RefusesFor o.by e PutFile n m)
err_paid r n m d o os f is err = err_drafted r n m d o (draft_same n d o os f is) err

-- ---- the line is one that the log lacks

pub draft_new : {K : Type 0} (n : LedgerView K) (o : OwedLine) (d : Draft) → IsDraftOf n o d → AreNew d.new (lines_at n.branch d.path)
draft_new n o d is =
    subst (λ (x : List (List ℕ)). AreNew x (lines_at n.branch d.path)) (sym is.new)
    (subst (λ (p : List ℕ). AreNew (due_by n o.key o.repo o.there) (lines_at n.branch p)) (sym is.path)
    (if_new_new (lines_at n.branch (location_path o.key)) (status_line (lines_at n.branch (location_path o.key)) (id_known n o.repo) o.there (n.time + n.setup.offset))))
