-- An entry of a run breaks no rule after the start before it, of which nothing else is known.
use Rattle.std.proofs.Common.{◌≡◌, ◌↔◌, ℕ, zero, suc, ◌+◌, ◌<◌, ◌≤◌, List, [], ◌∷◌, ◌++◌, get_or, length, take, Option, Some, None, refl, sym, ap, subst, ◌∙◌, arith}
use Rattle.std.specs.Prelude.{Bool, reverse, slice_get}
use Rattle.std.proofs.lemmas.List.{take_more}
use Rattle.annex_base.specs.Lists.{Each}
use Rattle.run_data.specs.Repos.{IsSetUp}
use Rattle.run_data.specs.declared.entry.Entry.{Entry}
use Rattle.run_data.specs.declared.run.Run.{Run}
use Rattle.run_model.specs.Run.{IsRun, RunPast, RunStep, set_up}
use Rattle.run_model.specs.States.{state_of, works}
use Rattle.step_facts.proofs.WorkNumbers.{number_begun}
use Rattle.past_facts.proofs.OwnRuns.{own_past}
use Rattle.step_judging.specs.Rules.{breaks, broken_rule, first_broken, has_row, is_ordered, may_take_next, words_told}
use Rattle.step_rules.specs.Runs.{start_of, with_entry}
use Rattle.step_rules.proofs.Carrying.{PathsKept, paths_stay, reverse_more}
use Rattle.step_rules.proofs.SameStep.{HavePaths, own_same}

abbrev pub NextLaw : Type 0
NextLaw = (run : Run) (past : List Entry) (e : Entry) → Each IsSetUp run.repos → RunPast (set_up run) past → (broken_rule (set_up run) past e ≡ None) ↔ RunStep (set_up run) past e

-- the paths of the running jobs are those that they have in the run with the entry
pub have_paths : PathsKept → (run : Run) (e : Entry) → IsRun (with_entry run e) → RunPast (set_up (with_entry run e)) (reverse run.entries) → (r : ℕ)
    → HavePaths (set_up run r) (works (reverse run.entries) r) (set_up (with_entry run e) r).paths
have_paths keep run e lawful steps r w among =
    sym (paths_stay keep run e lawful r w.number
    (number_begun (set_up (with_entry run e) r) (reverse run.entries) (own_past (with_entry run e) lawful.repos r (reverse run.entries) steps).run w among))

-- so the entry breaks the same rule by both
broken_same : PathsKept → (run : Run) (e : Entry) → IsRun (with_entry run e) → RunPast (set_up (with_entry run e)) (reverse run.entries) → (o : Option ℕ)
    → breaks (set_up run) (reverse run.entries) e o ≡ breaks (set_up (with_entry run e)) (reverse run.entries) e o
broken_same keep run e lawful steps None = refl
broken_same keep run e lawful steps (Some r) =
    let past = reverse run.entries in
    let st = state_of (set_up run r) past in
    ap (λ (b : Bool). first_broken ((1, is_ordered past e) ∷ (2, has_row st e) ∷ (3, b) ∷ (4, may_take_next past r e.taken) ∷ []))
    (own_same (set_up run r) (set_up (with_entry run e) r).paths st (have_paths keep run e lawful steps r) (words_told past r e.kind) e)

pub breaks_none : NextLaw → PathsKept → (run : Run) (e : Entry) → IsRun (with_entry run e) → broken_rule (set_up run) (reverse run.entries) e ≡ None
breaks_none next keep run e lawful =
    let steps = subst (RunPast (set_up (with_entry run e))) (reverse_more run e) lawful.steps in
    broken_same keep run e lawful steps.1 e.repo ∙ (next (with_entry run e) (reverse run.entries) e lawful.repos steps.1).1 steps.0

-- ---- the start with one entry more

place_within : {X : Type 0} (xs : List X) (i : ℕ) (x : X) → slice_get xs i ≡ Some x → (i < length xs) × (x ≡ get_or xs i x)
place_within [] i x at = absurd (cc)
place_within (y ∷ ys) zero x at = (omega arith, (let same : y ≡ x = cc in sym same))
place_within (y ∷ ys) (suc i) x at = let rest = place_within ys i x at in let low = rest.0 in (omega (arith, low), rest.1)

pub start_more : (run : Run) (place : ℕ) (e : Entry) → slice_get run.entries place ≡ Some e → start_of run (place + 1) ≡ with_entry (start_of run place) e
start_more run place e at =
    let w = place_within run.entries place e at in
    ap (λ (entries : List Entry). record run { entries = entries })
    (take_more run.entries place e w.0 ∙ ap (λ (x : Entry). take place run.entries ++ x ∷ []) (sym w.1))

pub start_within : (run : Run) (place : ℕ) (e : Entry) → slice_get run.entries place ≡ Some e → place + 1 ≤ length run.entries
start_within run place e at = let low = (place_within run.entries place e at).0 in omega (arith, low)
