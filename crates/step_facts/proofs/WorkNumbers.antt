-- Running jobs differ in number and in slot.
use Rattle.std.proofs.Common.{◌≡◌, ℕ, ◌+◌, ◌<◌, ◌≤◌, Bool, true, false, List, [], ◌∷◌, Option, inl, inr, refl, sym, ap, ◌∙◌, subst, arith}
use Rattle.std.specs.Prelude.{◌==◌, ◌||◌, filter, length, map, not}
use Rattle.std.proofs.lemmas.Bool.Decides.{nat_tests}
use Rattle.std.proofs.lemmas.List.{length-map}
use Rattle.annex_base.specs.Lists.{Member}
use Rattle.run_data.specs.declared.entry.Entry.{Entry}
use Rattle.run_data.specs.declared.entry.EntryKind.{EntryKind}
use Rattle.run_data.specs.declared.entry.EntryKind.TheVariants.{Begin, Crash, End as ends_job}
use Rattle.run_data.specs.declared.job.Job.{Job}
use Rattle.node_model.specs.Slots.{RunningJob, free_slot, uses}
use Rattle.run_model.specs.Past.{begun_count, is_of, jobs, jobs_after}
use Rattle.annex_base.specs.declared.kinds.Word.{Word}
use Rattle.node_model.specs.SetUp.{SetUp}
use Rattle.run_model.specs.States.{state_of, works}
use Rattle.node_model.specs.AnyTime.{MayCome}
use Rattle.node_model.specs.Jobs.{Work, running_job}
use Rattle.run_model.specs.Run.{IsStep, OwnPart, OwnRun}
use Rattle.step_facts.proofs.Plain.{each_map}
use Rattle.step_facts.proofs.JobKept.{jobs_are}
use Rattle.step_facts.proofs.JobNumbers.{Falling, Numbered, jobs_numbered}
use Rattle.step_facts.proofs.StepFacts.{kind_found}

-- ---- numbers

pub running_member : (ws : List Work) (w : Work) → Member w ws → Member (running_job w) (map running_job ws)
running_member [] w m = absurd m
running_member (x ∷ ws) w (inl m) = inl (ap running_job m)
running_member (x ∷ ws) w (inr m) = inr (running_member ws w m)

-- a running job is known by its number
pub same_work : (ws : List Work) → Falling (map running_job ws) → (x y : Work) → Member x ws → Member y ws → x.number ≡ y.number → x ≡ y
same_work [] a x y m n e = absurd m
same_work (w ∷ ws) a x y (inl m) (inl n) e = m ∙ sym n
same_work (w ∷ ws) a x y (inl m) (inr n) e =
    let below : y.number < w.number = each_map (λ (j : RunningJob). j.number < w.number) running_job ws y a.0 n in
    let at : x.number ≡ w.number = ap (λ (z : Work). z.number) m in
    absurd (omega arith)
same_work (w ∷ ws) a x y (inr m) (inl n) e =
    let below : x.number < w.number = each_map (λ (j : RunningJob). j.number < w.number) running_job ws x a.0 m in
    let at : y.number ≡ w.number = ap (λ (z : Work). z.number) n in
    absurd (omega arith)
same_work (w ∷ ws) a x y (inr m) (inr n) e = same_work ws a.1 x y m n e

pub works_numbered : (s : SetUp) (past : List Entry) → OwnRun s past → Numbered (begun_count past s.number) (map running_job (works past s.number))
works_numbered s past run = subst (Numbered (begun_count past s.number)) (sym (jobs_are past s.number)) (jobs_numbered s past run)

pub same_number_same_work : (s : SetUp) (past : List Entry) → OwnRun s past → (x y : Work) → Member x (works past s.number) → Member y (works past s.number) → x.number ≡ y.number → x ≡ y
same_number_same_work s past run x y m n e = same_work (works past s.number) (works_numbered s past run).falling x y m n e

pub number_begun : (s : SetUp) (past : List Entry) → OwnRun s past → (w : Work) → Member w (works past s.number) → w.number ≤ begun_count past s.number
number_begun s past run w m =
    each_map (λ (j : RunningJob). j.number ≤ begun_count past s.number) running_job (works past s.number) w (works_numbered s past run).bounded m

-- ---- slots

-- the slots differ
abbrev pub Apart : List RunningJob → Type 0
Apart [] = Unit {0}
Apart (j ∷ js) = (uses js j.slot ≡ false) × Apart js

abbrev but : ℕ → List RunningJob → List RunningJob
but slot js = filter (λ j. not (j.slot == slot)) js

not_used : (q : RunningJob → Bool) (slot : ℕ) (js : List RunningJob) → uses js slot ≡ false → uses (filter q js) slot ≡ false
not_used q slot [] e = refl
not_used q slot (j ∷ js) e = go (λ h. not_used q slot js h) (j.slot == slot) (q j) refl refl e
  where
    go : (uses js slot ≡ false → uses (filter q js) slot ≡ false) → (a b : Bool) → (j.slot == slot) ≡ a → q j ≡ b → (a || uses js slot) ≡ false → uses (filter q (j ∷ js)) slot ≡ false
    go more true b is keeps e = absurd (cc)
    go more false true is keeps e = rw (keeps, is) (more e)
    go more false false is keeps e = rw keeps (more e)

apart_filter : (q : RunningJob → Bool) (js : List RunningJob) → Apart js → Apart (filter q js)
apart_filter q [] a = tt
apart_filter q (j ∷ js) a = go (apart_filter q js a.1) (q j) refl
  where
    go : Apart (filter q js) → (b : Bool) → q j ≡ b → Apart (filter q (j ∷ js))
    go more true is = rw is (not_used q j.slot js a.0, more)
    go more false is = rw is more

-- without one slot there are fewer
fewer : (slot : ℕ) (js : List RunningJob) → length (but slot js) ≤ length js
fewer slot [] = omega arith
fewer slot (j ∷ js) = go (j.slot == slot) refl (fewer slot js)
  where
    go : (b : Bool) → (j.slot == slot) ≡ b → length (but slot js) ≤ length js → length (but slot (j ∷ js)) ≤ length (j ∷ js)
    go true is less = rw is (omega arith)
    go false is less = rw is (omega arith)

fewer_used : (slot : ℕ) (js : List RunningJob) → uses js slot ≡ true → length (but slot js) + 1 ≤ length js
fewer_used slot [] e = absurd (cc)
fewer_used slot (j ∷ js) e = go (λ h. fewer_used slot js h) (j.slot == slot) refl e
  where
    go : (uses js slot ≡ true → length (but slot js) + 1 ≤ length js) → (b : Bool) → (j.slot == slot) ≡ b → (b || uses js slot) ≡ true → length (but slot (j ∷ js)) + 1 ≤ length (j ∷ js)
    go more true is e = let less = fewer slot js in rw is (omega arith)
    go more false is e = let less = more e in rw is (omega arith)

still_used : (slot other : ℕ) (js : List RunningJob) → (other == slot) ≡ false → uses js other ≡ true → uses (but slot js) other ≡ true
still_used slot other [] away e = e
still_used slot other (j ∷ js) away e = go (λ h. still_used slot other js away h) (j.slot == slot) (j.slot == other) refl refl e
  where
    go : (uses js other ≡ true → uses (but slot js) other ≡ true) → (a b : Bool) → (j.slot == slot) ≡ a → (j.slot == other) ≡ b → (b || uses js other) ≡ true → uses (but slot (j ∷ js)) other ≡ true
    go more true true is at e = absurd (grind (arith, nat_tests))
    go more true false is at e = rw is (more e)
    go more false true is at e = rw is (rw at refl)
    go more false false is at e = rw is (rw at (more e))

-- with fewer than four jobs, one of four slots is free
three_free : (js : List RunningJob) → length js < 4 → uses js 0 ≡ true → uses js 1 ≡ true → uses js 2 ≡ true → uses js 3 ≡ false
three_free js few a b c = go (uses js 3) refl
  where
    go : (d : Bool) → uses js 3 ≡ d → d ≡ false
    go false d = refl
    go true d =
        let js1 = but 0 js in
        let js2 = but 1 js1 in
        let js3 = but 2 js2 in
        let n0 = fewer_used 0 js a in
        let n1 = fewer_used 1 js1 (still_used 0 1 js refl b) in
        let n2 = fewer_used 2 js2 (still_used 1 2 js1 refl (still_used 0 2 js refl c)) in
        let n3 = fewer_used 3 js3 (still_used 2 3 js2 refl (still_used 1 3 js1 refl (still_used 0 3 js refl d))) in
        absurd (omega arith)

pub free_is : (js : List RunningJob) → length js < 4 → uses js (free_slot js) ≡ false
free_is js few = go (uses js 0) (uses js 1) (uses js 2) refl refl refl
  where
    go : (a b c : Bool) → uses js 0 ≡ a → uses js 1 ≡ b → uses js 2 ≡ c → uses js (free_slot js) ≡ false
    go false b c p q r = rw p p
    go true false c p q r = rw (p, q) q
    go true true false p q r = rw (p, q, r) r
    go true true true p q r = rw (p, q, r) (three_free js few p q r)

-- where a job may begin
pub begins_few : (s : SetUp) (past : List Entry) (words : ℕ → Option Word) (e : Entry) → OwnPart s past words e → (job : ℕ) (what : Job) → e.kind ≡ Begin job what → length (works past s.number) < 4
begins_few s past words e own job what is = elim (own.does) [
  | inl x ↦ absurd (steps x)
  | inr x ↦ (subst (MayCome s (state_of s past) e.lines e.sent) is x.may).0.slot_free
]
  where
    steps : IsStep s past words e → ⊥
    steps x = elim (kind_found s (state_of s past) x.look x.made (Begin job what) x.makes (sym (ap (λ (y : Entry). y.kind) x.is) ∙ is) (λ h. h)) [
      | inl y ↦ y.found
      | inr y ↦ y.found
    ]

after_apart : (js : List RunningJob) (kind : EntryKind) → ((job : ℕ) (what : Job) → kind ≡ Begin job what → length js < 4) → Apart js → Apart (jobs_after js kind)
after_apart js (Begin job what) few a = (free_is js (few job what refl), a)
after_apart js (ends_job job outcome) few a = apart_filter (λ (j : RunningJob). not (j.number == job)) js a
after_apart js (Crash clock) few a = tt
after_apart js kind few a = a

pub jobs_apart : (s : SetUp) (past : List Entry) → OwnRun s past → Apart (jobs past s.number)
jobs_apart s [] run = tt
jobs_apart s (e ∷ past) run = go (jobs_apart s past run.1) (is_of s.number e) refl
  where
    go : Apart (jobs past s.number) → (b : Bool) → is_of s.number e ≡ b → Apart (jobs (e ∷ past) s.number)
    go a false is = rw is a
    go a true is =
        let own = run.0 is in
        rw is (after_apart (jobs past s.number) e.kind
        (λ job what k. let few = begins_few s past own.0 e own.1 job what k in
        let same : length (jobs past s.number) ≡ length (works past s.number) = ap length (sym (jobs_are past s.number)) ∙ length-map (works past s.number) running_job in omega arith) a)

pub works_apart : (s : SetUp) (past : List Entry) → OwnRun s past → Apart (map running_job (works past s.number))
works_apart s past run = subst Apart (sym (jobs_are past s.number)) (jobs_apart s past run)

uses_member : (ws : List Work) (w : Work) → Member w ws → uses (map running_job ws) w.slot ≡ true
uses_member [] w m = absurd m
uses_member (x ∷ ws) w (inl m) =
    let slot : w.slot ≡ x.slot = ap (λ (z : Work). z.slot) m in
    subst (λ k. ((x.slot == k) || uses (map running_job ws) k) ≡ true) (sym slot) (here x.slot)
  where
    here : (n : ℕ) → ((n == n) || uses (map running_job ws) n) ≡ true
    here n = let same : (n == n) ≡ true = grind (arith, nat_tests) in rw same refl
uses_member (x ∷ ws) w (inr m) = go (x.slot == w.slot) (uses_member ws w m)
  where
    go : (b : Bool) → uses (map running_job ws) w.slot ≡ true → (b || uses (map running_job ws) w.slot) ≡ true
    go true more = refl
    go false more = more

apart_same : (ws : List Work) → Apart (map running_job ws) → (x y : Work) → Member x ws → Member y ws → x.slot ≡ y.slot → x ≡ y
apart_same [] a x y m n e = absurd m
apart_same (w ∷ ws) a x y (inl m) (inl n) e = m ∙ sym n
apart_same (w ∷ ws) a x y (inl m) (inr n) e =
    let at : y.slot ≡ w.slot = sym e ∙ ap (λ (z : Work). z.slot) m in
    let used : uses (map running_job ws) w.slot ≡ true = subst (λ k. uses (map running_job ws) k ≡ true) at (uses_member ws y n) in
    absurd (let both : true ≡ false = sym used ∙ a.0 in cc)
apart_same (w ∷ ws) a x y (inr m) (inl n) e =
    let at : x.slot ≡ w.slot = e ∙ ap (λ (z : Work). z.slot) n in
    let used : uses (map running_job ws) w.slot ≡ true = subst (λ k. uses (map running_job ws) k ≡ true) at (uses_member ws x m) in
    absurd (let both : true ≡ false = sym used ∙ a.0 in cc)
apart_same (w ∷ ws) a x y (inr m) (inr n) e = apart_same ws a.1 x y m n e

-- a running job is known by its slot
pub same_slot_same_work : (s : SetUp) (past : List Entry) → OwnRun s past → (x y : Work) → Member x (works past s.number) → Member y (works past s.number) → x.slot ≡ y.slot → x ≡ y
same_slot_same_work s past run x y m n e = apart_same (works past s.number) (works_apart s past run) x y m n e
