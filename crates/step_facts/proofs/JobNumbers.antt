-- The running jobs of a repository have numbers of their own, of those that it has begun.
use Rattle.std.proofs.Common.{◌≡◌, ℕ, ◌+◌, ◌<◌, ◌≤◌, Bool, true, false, List, [], ◌∷◌, Option, inl, inr, refl, sym, ap, ◌∙◌, subst, arith}
use Rattle.std.specs.Prelude.{if◌then◌else◌, ◌==◌, filter, not}
use Rattle.annex_base.specs.Lists.{Each, Member}
use Rattle.run_data.specs.declared.entry.Entry.{Entry}
use Rattle.run_data.specs.declared.entry.EntryKind.{EntryKind}
use Rattle.run_data.specs.declared.entry.EntryKind.TheVariants.{Begin, Crash, End as ends_job}
use Rattle.run_data.specs.declared.job.Job.{Job}
use Rattle.node_model.specs.Slots.{RunningJob, is_begin}
use Rattle.run_model.specs.Past.{begun_count, is_of, jobs, jobs_after}
use Rattle.node_model.specs.SetUp.{SetUp}
use Rattle.run_model.specs.States.{state_of}
use Rattle.node_model.specs.AnyTime.{MayCome}
use Rattle.annex_base.specs.declared.kinds.Word.{Word}
use Rattle.annex_base.proofs.Lists.{Each-filter, Each-member, Each-weaker}
use Rattle.run_model.specs.Run.{IsStep, OwnPart, OwnRun}
use Rattle.step_facts.proofs.StepFacts.{kind_found}

-- the numbers fall
abbrev pub Falling : List RunningJob → Type 0
Falling [] = Unit {0}
Falling (j ∷ js) = Each (λ x. x.number < j.number) js × Falling js

falling_filter : (q : RunningJob → Bool) (js : List RunningJob) → Falling js → Falling (filter q js)
falling_filter q [] a = tt
falling_filter q (j ∷ js) a = go (falling_filter q js a.1) (q j) refl
  where
    go : Falling (filter q js) → (b : Bool) → q j ≡ b → Falling (filter q (j ∷ js))
    go more true is = rw is (Each-filter (λ x. x.number < j.number) q js a.0, more)
    go more false is = rw is more

-- at most so many have begun
pub record Numbered (n : ℕ) (js : List RunningJob) : Type 0 where
  pub bounded : Each (λ j. j.number ≤ n) js
  pub falling : Falling js

abbrev begun_after : ℕ → Bool → ℕ
begun_after n b = if b then n + 1 else n

after_numbered : (n : ℕ) (js : List RunningJob) (kind : EntryKind) → ((job : ℕ) (what : Job) → kind ≡ Begin job what → job ≡ n + 1) → Numbered n js → Numbered (begun_after n (is_begin kind)) (jobs_after js kind)
after_numbered n js (Begin job what) next x =
    let is : job ≡ n + 1 = next job what refl in
    record {
      bounded = (omega arith, Each-weaker (λ (j : RunningJob). j.number ≤ n) (λ (j : RunningJob). j.number ≤ n + 1) (λ j h. omega arith) js x.bounded);
      falling = (Each-weaker (λ (j : RunningJob). j.number ≤ n) (λ (j : RunningJob). j.number < job) (λ j h. omega arith) js x.bounded, x.falling);
    }
after_numbered n js (ends_job job outcome) next x = record {
  bounded = Each-filter (λ (j : RunningJob). j.number ≤ n) (λ (j : RunningJob). not (j.number == job)) js x.bounded;
  falling = falling_filter (λ (j : RunningJob). not (j.number == job)) js x.falling;
}
after_numbered n js (Crash clock) next x = record { bounded = tt; falling = tt }
after_numbered n js kind next x = x

-- a job that begins has the next number
pub begins_next : (s : SetUp) (past : List Entry) (words : ℕ → Option Word) (e : Entry) → OwnPart s past words e → (job : ℕ) (what : Job) → e.kind ≡ Begin job what → job ≡ begun_count past s.number + 1
begins_next s past words e own job what is = elim (own.does) [
  | inl x ↦ absurd (steps x)
  | inr x ↦ (subst (MayCome s (state_of s past) e.lines e.sent) is x.may).0.number_is
]
  where
    steps : IsStep s past words e → ⊥
    steps x = elim (kind_found s (state_of s past) x.look x.made (Begin job what) x.makes (sym (ap (λ (y : Entry). y.kind) x.is) ∙ is) (λ h. h)) [
      | inl y ↦ y.found
      | inr y ↦ y.found
    ]

pub jobs_numbered : (s : SetUp) (past : List Entry) → OwnRun s past → Numbered (begun_count past s.number) (jobs past s.number)
jobs_numbered s [] run = record { bounded = tt; falling = tt }
jobs_numbered s (e ∷ past) run = go (jobs_numbered s past run.1) (is_of s.number e) refl
  where
    go : Numbered (begun_count past s.number) (jobs past s.number) → (b : Bool) → is_of s.number e ≡ b → Numbered (begun_count (e ∷ past) s.number) (jobs (e ∷ past) s.number)
    go x false is = rw is x
    go x true is = let own = run.0 is in rw is (after_numbered (begun_count past s.number) (jobs past s.number) e.kind (begins_next s past own.0 e own.1) x)

-- a job is known by its number
pub same_job : (js : List RunningJob) → Falling js → (x y : RunningJob) → Member x js → Member y js → x.number ≡ y.number → x ≡ y
same_job [] a x y m n e = absurd m
same_job (j ∷ js) a x y (inl m) (inl n) e = m ∙ sym n
same_job (j ∷ js) a x y (inl m) (inr n) e =
    let below : y.number < j.number = Each-member (λ (z : RunningJob). z.number < j.number) js y a.0 n in
    let at : x.number ≡ j.number = ap (λ (z : RunningJob). z.number) m in
    absurd (omega arith)
same_job (j ∷ js) a x y (inr m) (inl n) e =
    let below : x.number < j.number = Each-member (λ (z : RunningJob). z.number < j.number) js x a.0 m in
    let at : y.number ≡ j.number = ap (λ (z : RunningJob). z.number) n in
    absurd (omega arith)
same_job (j ∷ js) a x y (inr m) (inr n) e = same_job js a.1 x y m n e
