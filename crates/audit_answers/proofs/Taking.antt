-- The entries of a journal are taken one by one.
use Rattle.std.proofs.Common.{◌≡◌, ℕ, zero, suc, ◌+◌, ◌<◌, ◌≤◌, ◌^◌, true, false, List, [], ◌∷◌, ◌++◌, length, take, get_or, Option, Some, None, Result, Ok, Err, IfOk, refl, sym, ap, subst, ◌∙◌, arith}
use Rattle.std.specs.Prelude.{is_some, reverse, slice_get}
use Rattle.std.proofs.lemmas.List.{take_more}
use Rattle.run_data.specs.declared.entry.Entry.{Entry}
use Rattle.run_data.specs.declared.run.Run.{Run}
use Rattle.run_model.specs.Run.{IsRun, set_up}
use Rattle.journal_reading.specs.WellFormed.{IsJournal}
use Rattle.step_judging.specs.Verdicts.{verdict}
use Rattle.step_rules.specs.Runs.{start_of, with_entry}
use Rattle.run_audit.specs.Audited.{IsAuditorOf}
use Rattle.run_audit.specs.declared.auditor.Auditor.{Auditor}
use Rattle.script_answers.specs.declared.due.Due.{Due}
use Rattle.script_answers.specs.declared.status.Status.{Status}
use Rattle.script_answers.specs.declared.status.Status.TheVariants.{Done, NotARun}
use Rattle.audit_answers.specs.declared.due.Refusal.{Refusal}
use Rattle.audit_answers.specs.Due.{HasTaken, IsAuditDue, IsAudited, IsRefusalOf, TakesOne, TellsKeys, input_limit}
use Rattle.audit_answers.specs.Texts.{audit_text}
use Rattle.audit_answers.proofs.JournalRuns.{whole_start}

-- ---- places

at_of : (xs : List Entry) (i : ℕ) (x : Entry) → i < length xs → x ≡ get_or xs i x → slice_get xs i ≡ Some x
at_of [] i x low is = absurd (omega (arith, low))
at_of (y ∷ xs) zero x low is = ap (λ z. Some z) (sym is)
at_of (y ∷ xs) (suc i) x low is = at_of xs i x (omega (arith, low)) is

pub at_same : (xs ys : List Entry) (i : ℕ) (x : Entry) → ys ≡ xs → i < length ys → x ≡ get_or ys i x → slice_get xs i ≡ Some x
at_same xs ys i x same low is = subst (λ (zs : List Entry). slice_get zs i ≡ Some x) same (at_of ys i x low is)

place_within : (xs : List Entry) (i : ℕ) (x : Entry) → slice_get xs i ≡ Some x → (i < length xs) × (x ≡ get_or xs i x)
place_within [] i x at = absurd (cc)
place_within (y ∷ ys) zero x at = (omega arith, (let same : y ≡ x = cc in sym same))
place_within (y ∷ ys) (suc i) x at = let rest = place_within ys i x at in let low = rest.0 in (omega (arith, low), rest.1)

start_more : (run : Run) (place : ℕ) (e : Entry) → slice_get run.entries place ≡ Some e → start_of run (place + 1) ≡ with_entry (start_of run place) e
start_more run place e at =
    let w = place_within run.entries place e at in
    ap (λ (entries : List Entry). record run { entries = entries })
    (take_more run.entries place e w.0 ∙ ap (λ (x : Entry). take place run.entries ++ x ∷ []) (sym w.1))

-- ---- an entry

pub none_of : (o : Option Refusal) → is_some o ≡ false → o ≡ None
none_of None none = refl
none_of (Some x) none = absurd (let no : true ≡ false = none in cc)

pub was_taken : (run : Run) (i place : ℕ) (e : Entry) (x : Auditor) (o : Option Refusal) → is_some o ≡ false → slice_get run.entries i ≡ Some e
    → TakesOne (start_of run i) e place x o → IsAuditorOf x (start_of run (i + 1))
was_taken run i place e x None none at takes = subst (IsAuditorOf x) (sym (start_more run i e at)) takes
was_taken run i place e x (Some refusal) none at takes = absurd (let no : true ≡ false = none in cc)

refused_at : (run : Run) (e : Entry) (refusal : Refusal) (i : ℕ) → i ≡ refusal.place → slice_get run.entries i ≡ Some e → IsRun (start_of run i)
    → verdict (set_up (start_of run i)) (reverse (start_of run i).entries) e ≡ Some (record { rule = refusal.rule; found = refusal.found }) → IsRefusalOf run refusal
refused_at run e refusal i here at lawful breaks = record {
  entry = e;
  at = subst (λ n. slice_get run.entries n ≡ Some e) here at;
  before = subst (λ n. IsRun (start_of run n)) here lawful;
  breaks = subst (λ n. verdict (set_up (start_of run n)) (reverse (start_of run n).entries) e ≡ Some (record { rule = refusal.rule; found = refusal.found })) here breaks;
}

pub was_refused : (run : Run) (i place : ℕ) (e : Entry) (x : Auditor) (o : Option Refusal) → is_some o ≡ true → slice_get run.entries i ≡ Some e → IsRun (start_of run i)
    → place ≡ i → TakesOne (start_of run i) e place x o → HasTaken run x o
was_refused run i place e x None some at lawful same takes = absurd (let no : false ≡ true = some in cc)
was_refused run i place e x (Some refusal) some at lawful same takes = refused_at run e refusal i (sym (takes.0 ∙ same)) at lawful takes.1

-- ---- all entries

pub refusal_of : (run : Run) (x : Auditor) (o : Option Refusal) (r : Refusal) → HasTaken run x o → o ≡ Some r → IsRefusalOf run r
refusal_of run x o r taken is = subst (HasTaken run x) is taken

pub refusal_low : (run : Run) (r : Refusal) → IsRefusalOf run r → length run.entries < 2 ^ 32 → r.place + 1 < 2 ^ 64
refusal_low run r of few = let low = (place_within run.entries r.place of.entry of.at).0 in omega (arith, few, low)

pub auditor_of : (run : Run) (x : Auditor) (o : Option Refusal) → HasTaken run x o → o ≡ None → IsAuditorOf x run
auditor_of run x o taken is = subst (IsAuditorOf x) (whole_start run) (subst (HasTaken run x) is taken)

-- ---- what is due

pub refused_good : {E : Type 0} (r : Result Due E) (text : List ℕ) (X : Type 0) → IfOk r (λ d. (d.status ≡ NotARun) × (d.text.items ≡ text)) → IfOk r (λ d. d.status ≡ Done → X)
refused_good (Ok d) text X h = λ done. absurd (let both : NotARun ≡ Done = sym h.0 ∙ done in cc)
refused_good (Err e) text X h = tt

pub always_good : {E : Type 0} (r : Result Due E) (X : Type 0) → X → IfOk r (λ d. d.status ≡ Done → X)
always_good (Ok d) X h = λ done. h
always_good (Err e) X h = tt

pub audited_is_due : {E : Type 0} (r : Result Due E) (bytes : List ℕ) (run : Run) (x : Auditor) (n : ℕ) → length bytes ≤ input_limit → IsJournal bytes run → IsAuditorOf x run → n ≡ length run.entries
    → IfOk r (λ d. (d.status ≡ Done) × ((other : Run) → IsAuditorOf x other → TellsKeys other n d.text.items)) → IfOk r (λ d. IsAuditDue bytes d.status d.text.items)
audited_is_due (Ok d) bytes run x n short is of count h =
    let tells = h.1 run of in
    let audited : IsAudited bytes d.text.items = record {
      short = short;
      run = run;
      journal = is;
      lawful = of.after.lawful;
      keys = tells.keys;
      keys_are = tells.keys_are;
      text_is = tells.text_is ∙ ap (λ m. audit_text tells.keys m) count;
    } in
    subst (λ (s : Status). IsAuditDue bytes s d.text.items) (sym h.0) audited
audited_is_due (Err e) bytes run x n short is of count h = tt
