-- The entries of runs are judged as they should.
use Rattle.std.proofs.Common.{◌≡◌, ◌↔◌, ℕ, true, List, [], ◌∷◌, Option, Some, None, refl, ap, subst}
use Rattle.std.specs.Prelude.{is_none, reverse}
use Rattle.std.proofs.lemmas.Bool.{and_from, and_parts, eqb-true}
use Rattle.annex_base.specs.Lists.{Each}
use Rattle.annex_base.specs.declared.kinds.Word.{Word}
use Rattle.annex_base.proofs.Options.{is_none_true}
use Rattle.run_data.specs.Repos.{IsSetUp}
use Rattle.run_data.specs.declared.entry.Entry.{Entry}
use Rattle.run_data.specs.declared.run.Run.{Run}
use Rattle.node_model.specs.Rows.{option_is}
use Rattle.node_model.specs.SetUp.{SetUp}
use Rattle.run_model.specs.Past.{Always, is_of}
use Rattle.run_model.specs.Run.{FramesPart, IsBounded, IsRun, MayBe, OwnPart, OwnPast, OwnRun, RunPast, RunStep, set_up}
use Rattle.run_model.specs.States.{state_of}
use Rattle.run_laws.specs.Sound.{IsSound}
use Rattle.step_judging.specs.Rules.{breaks_none, broken_rule}
use Rattle.step_judging.proofs.Judged.{Keys, step_unbroken, unbroken_step}
use Rattle.step_judging.proofs.RowsHold.{StepsFind}

-- ---- what one repository does in a run

option_same : (o : Option ℕ) (n : ℕ) → option_is o n ≡ true → o ≡ Some n
option_same None n e = absurd (cc)
option_same (Some m) n e = ap (λ x. Some x) (eqb-true m n e)

pub part_of : (s : ℕ → SetUp) (past : List Entry) (e : Entry) (r : ℕ) → RunStep s past e → is_of r e ≡ true → (words : ℕ → Option Word) × OwnPart (s r) past words e × FramesPart past r words e
part_of s past e r x is = subst (λ (o : Option ℕ). MayBe s past e o) (option_same e.repo r is) x.may

own_run : (run : Run) (r : ℕ) (past : List Entry) → RunPast (set_up run) past → OwnRun (set_up run r) past
own_run run r [] h = tt
own_run run r (e ∷ past) h = ((λ is. let p = part_of (set_up run) past e r h.0 is in (p.0, p.1)), own_run run r past h.1)

all_bounded : (run : Run) (past : List Entry) → RunPast (set_up run) past → Always (λ p x. IsBounded x) past
all_bounded run [] h = tt
all_bounded run (e ∷ past) h = (record { in_time = h.0.order.in_time; small = h.0.order.small }, all_bounded run past h.1)

pub own_past : (run : Run) → Each IsSetUp run.repos → (r : ℕ) (past : List Entry) → RunPast (set_up run) past → OwnPast (set_up run r) past
own_past run repos r past h = record { repos = repos; run = own_run run r past h; bounds = all_bounded run past h }

-- ---- the rules

abbrev pub StatesSound : Type 0
StatesSound = (s : SetUp) (past : List Entry) → OwnRun s past → IsSound (state_of s past)

module _ (keys : Keys) (found : StepsFind) (sound : StatesSound) (run : Run) (repos : Each IsSetUp run.repos) where
  pub step_judged : (past : List Entry) (e : Entry) → RunPast (set_up run) past → (broken_rule (set_up run) past e ≡ None) ↔ RunStep (set_up run) past e
  step_judged past e h = (unbroken_step keys found (set_up run) (λ r. refl) past e, step_unbroken keys found (set_up run) (λ r. refl) past e (λ r is. sound (set_up run r) past (own_run run r past h)))

  past_judged : (past : List Entry) → breaks_none (set_up run) past ≡ true → RunPast (set_up run) past
  past_judged [] h = tt
  past_judged (e ∷ past) h =
      let both = and_parts (breaks_none (set_up run) past) (is_none (broken_rule (set_up run) past e)) h in
      let before = past_judged past both.0 in
      ((step_judged past e before).0 (is_none_true (broken_rule (set_up run) past e) both.1), before)

  past_breaks : (past : List Entry) → RunPast (set_up run) past → breaks_none (set_up run) past ≡ true
  past_breaks [] h = refl
  past_breaks (e ∷ past) h =
      let none : broken_rule (set_up run) past e ≡ None = (step_judged past e h.1).1 h.0 in
      and_from (breaks_none (set_up run) past) (is_none (broken_rule (set_up run) past e)) (past_breaks past h.1) (rw none refl)

  pub run_judged : (breaks_none (set_up run) (reverse run.entries) ≡ true) ↔ IsRun run
  run_judged = (λ h. record { repos = repos; steps = past_judged (reverse run.entries) h }, λ x. past_breaks (reverse run.entries) x.steps)
