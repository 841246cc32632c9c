-- The first rule that is broken, by what each test says; and what is carried of a run.
use Rattle.std.proofs.Common.{◌≡◌, ℕ, Bool, true, false, List, [], ◌∷◌, Option, Some, None, Result, Ok, Err, IfOk, refl, sym, ap, ◌∙◌}
use Rattle.std.specs.Prelude.{reverse}
use Rattle.annex_base.specs.Lists.{Each}
use Rattle.run_data.specs.Repos.{IsSetUp}
use Rattle.run_data.specs.declared.entry.Entry.{Entry}
use Rattle.run_data.specs.declared.run.Run.{Run}
use Rattle.run_model.specs.Run.{RunPast, set_up}
use Rattle.step_judging.specs.Carried.{breaks_by, judge_of, judged}
use Rattle.step_judging.specs.Rules.{broken_rule, first_broken}
use Rattle.step_rules.specs.States.{IsAfter}
use Rattle.step_rules.specs.declared.run_state.RunState.{RunState}

-- ---- the first that is broken

pub second_is : (a b c d : Bool) → a ≡ true → b ≡ false → Some 2 ≡ first_broken ((1, a) ∷ (2, b) ∷ (3, c) ∷ (4, d) ∷ [])
second_is a b c d p q = rw (p, q) refl

pub third_is : (a b c d : Bool) → a ≡ true → b ≡ true → c ≡ false → Some 3 ≡ first_broken ((1, a) ∷ (2, b) ∷ (3, c) ∷ (4, d) ∷ [])
third_is a b c d p q r = rw (p, q, r) refl

pub fourth_is : (a b c d : Bool) → a ≡ true → b ≡ true → c ≡ true → d ≡ false → Some 4 ≡ first_broken ((1, a) ∷ (2, b) ∷ (3, c) ∷ (4, d) ∷ [])
fourth_is a b c d p q r t = rw (p, q, r, t) refl

pub none_is : (a b c d : Bool) → a ≡ true → b ≡ true → c ≡ true → d ≡ true → None ≡ first_broken ((1, a) ∷ (2, b) ∷ (3, c) ∷ (4, d) ∷ [])
none_is a b c d p q r t = rw (p, q, r, t) refl

-- ---- what is carried

abbrev pub CarryLaw : Type 0
CarryLaw = (run : Run) (past : List Entry) (e : Entry) → Each IsSetUp run.repos → RunPast (set_up run) past
    → judged (set_up run) (judge_of (set_up run) past) e ≡ broken_rule (set_up run) past e

-- what the judge says of the entry is the rule that it breaks
pub rule_is : CarryLaw → (x : RunState) (run : Run) (e : Entry) (o : Option ℕ) → IsAfter x run → e.repo ≡ o
    → breaks_by (set_up run) (judge_of (set_up run) (reverse run.entries)) e o ≡ broken_rule (set_up run) (reverse run.entries) e
rule_is law x run e o after is =
    ap (breaks_by (set_up run) (judge_of (set_up run) (reverse run.entries)) e) (sym is) ∙ law run (reverse run.entries) e after.lawful.repos after.lawful.steps

-- ---- answers

pub ok_map : {A E : Type 0} (r : Result A E) (P Q : A → Type 0) → ((x : A) → P x → Q x) → IfOk r P → IfOk r Q
ok_map (Ok x) P Q f h = f x h
ok_map (Err e) P Q f h = tt
