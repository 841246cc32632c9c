-- Lines up to the first one with a fault.
use Rattle.std.proofs.Common.{◌≡◌, ℕ, suc, ◌+◌, ◌<◌, inl, inr, List, [], ◌∷◌, ◌++◌, length, Result, Ok, Err, Option, None, refl, sym, ap, ◌∙◌, subst, arith}
use Rattle.std.specs.Prelude.{◌==◌}
use Rattle.std.specs.List.{onto_first}
use Rattle.std.proofs.lemmas.Bool.{cases_Bool}
use Rattle.std.proofs.lemmas.List.Splits.{slice_split-cons_no, slice_split-cons_yes, length-slice_split}
use Rattle.annex_base.specs.Lines.{newline, is_newline}
use Rattle.annex_base.proofs.Results.{bind_ok, bind_err, ok_is}
use Rattle.script_forms.specs.declared.fault.LineFault.{LineFault}
use Rattle.script_lang.specs.Laws.{behind_lines}
use Rattle.script_lang.specs.Script.{State, Reading, line_step, lines_of, lines_reading, fault_of, goes_on, ended_by}
use Rattle.script_lang.specs.Script.Reading.{Commands}

pub first_fault : (before more : List (List ℕ)) (line : List ℕ) (start state : State) (number last : ℕ) (fault : LineFault) → last ≡ number + length before
    → behind_lines start number before ≡ Ok state → line_step state last line ≡ Err fault → lines_reading start number (before ++ line ∷ more) ≡ fault_of last fault
first_fault [] more line start state number last fault at behind wrong =
    let same : start ≡ state = ok_is LineFault start state behind in
    let here : last ≡ number = omega (arith, at) in
    rw (same, ← here, wrong) refl
first_fault (b ∷ before) more line start state number last fault at behind wrong =
    let step = bind_ok (line_step start number b) (λ next. behind_lines next (number + 1) before) state behind in
    rw step.1 (first_fault before more line step.0 state (number + 1) last fault (omega (arith, at)) step.2 wrong)

pub all_right : (lines : List (List ℕ)) (start state : State) (number : ℕ) → behind_lines start number lines ≡ Ok state → state.block ≡ None → lines_reading start number lines ≡ Commands state.commands
all_right [] start state number behind shut =
    let same : start ≡ state = ok_is LineFault start state behind in
    rw (same, shut) refl
all_right (b ∷ lines) start state number behind shut =
    let step = bind_ok (line_step start number b) (λ next. behind_lines next (number + 1) lines) state behind in
    rw step.1 (all_right lines step.0 state (number + 1) step.2 shut)

-- ---- what follows a fault

-- lines behind a fault change nothing
pub stopped : (lines more : List (List ℕ)) (state : State) (number : ℕ) (fault : LineFault) → behind_lines state number lines ≡ Err fault
    → lines_reading state number (lines ++ more) ≡ lines_reading state number lines
stopped [] more state number fault wrong = absurd cc
stopped (b ∷ lines) more state number fault wrong = elim (bind_err (line_step state number b) (λ next. behind_lines next (number + 1) lines) fault wrong) [
  | inl here ↦ rw here refl
  | inr later ↦ rw later.1 (stopped lines more later.0 (number + 1) fault later.2)
]

onto_first-append : (b : ℕ) (front back : List (List ℕ)) → 0 < length front → onto_first b (front ++ back) ≡ onto_first b front ++ back
onto_first-append b [] back some = absurd (omega arith)
onto_first-append b (x ∷ front) back some = refl

-- the lines of a text and of what follows it
pub lines_joined : (text more : List ℕ) → lines_of (text ++ newline ∷ more) ≡ lines_of text ++ lines_of more
lines_joined [] more = slice_split-cons_yes is_newline newline more refl
lines_joined (b ∷ text) more = elim (cases_Bool (b == newline)) [
  | inl is ↦ slice_split-cons_yes is_newline b (text ++ newline ∷ more) is ∙ ap (λ ls. [] ∷ ls) (lines_joined text more)
      ∙ sym (ap (λ ls. ls ++ lines_of more) (slice_split-cons_yes is_newline b text is))
  | inr other ↦ slice_split-cons_no is_newline b (text ++ newline ∷ more) other ∙ ap (onto_first b) (lines_joined text more)
      ∙ onto_first-append b (lines_of text) (lines_of more) (omega (arith, length-slice_split is_newline text))
      ∙ sym (ap (λ ls. ls ++ lines_of more) (slice_split-cons_no is_newline b text other))
]
