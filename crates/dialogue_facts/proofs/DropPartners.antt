-- A drop stands on connections with other repositories alone.
use Rattle.std.proofs.Common.{◌≡◌, ℕ, Bool, true, false, List, [], ◌∷◌, Option, Some, None, ◌⊎◌, inl, inr, refl, sym, ap, ◌∙◌, subst}
use Rattle.std.proofs.lemmas.Option.{same_Some}
use Rattle.annex_base.specs.Lists.{Member}
use Rattle.annex_base.specs.declared.kinds.Word.{Word}
use Rattle.step_facts.proofs.Below.{SentAreRead}
use Rattle.run_data.specs.declared.entry.Entry.{Entry}
use Rattle.run_data.specs.declared.entry.FrameText.TheVariants.{Opening}
use Rattle.run_data.specs.declared.job.Job.{Job}
use Rattle.node_model.specs.Slots.{RunningJob}
use Rattle.run_model.specs.Past.{is_of}
use Rattle.node_model.specs.SetUp.{SetUp, others}
use Rattle.run_model.specs.States.{rows_at, works}
use Rattle.node_model.specs.Ends.{frames}
use Rattle.node_model.specs.Jobs.{AsksLock, AsksLook, AsksTime, Drops, Fresh, Greets, Opens, Orders, Part, Phase, Work, job_end, partner, work_kind}
use Rattle.node_model.specs.Jobs
use Rattle.node_model.specs.JobStep.{Turn, end_with}
use Rattle.run_model.specs.Run.{OwnPart, OwnRun}
use Rattle.job_facts.proofs.TalkFacts.{Fits}
use Rattle.job_facts.proofs.PhaseFacts.{Good, GoodTo}
use Rattle.step_facts.proofs.JobSteps.{Origin, Steps, invariant, turn_at}
use Rattle.job_facts.proofs.WorkFits.{step_kind, step_runs, step_sent, step_talk, steps_good, works_fit}
use Rattle.step_facts.proofs.JobKept.{kind_kept}
use Rattle.job_facts.proofs.Aims.{aims}
use Rattle.job_facts.proofs.Asking.{Came, is_on_one, kind_came}
use Rattle.job_facts.proofs.OwnTried.{kind_peer}
use Rattle.job_facts.proofs.OpenEnds.{job_sends_to, open_runs}

abbrev Stood : SetUp → Part → Option ℕ → Phase → Type 0
Stood s part target phase = part ≡ Drops → (p : ℕ) → partner target phase ≡ Some p → Member p (others s)

was_drop : (part : Part) (old : Phase) (phase : Phase) → GoodTo part old Drops phase → (part ≡ Drops) ⊎ (phase ≡ Fresh)
was_drop Drops old phase g = inl refl
was_drop Jobs.Gets old phase g = inr g
was_drop Jobs.Puts old phase g = inr g

module _ (reads_back : SentAreRead) (s : SetUp) (past : List Entry) (e : Entry) (run : OwnRun s past) (words : ℕ → Option Word) (own : OwnPart s past words e) (x : Work) (b : Steps s past e x) (was : Stood s b.by.w.part b.by.w.what.peer b.by.w.phase) where
  abbrev v : Work
  v = b.by.w

  abbrev t : Turn
  t = turn_at s past e b.by

  fit : Fits v.part v.phase
  fit = works_fit s past run v (step_runs s past e x b)

  of_old : v.part ≡ Drops → (phase : Phase) (p : ℕ) → v.phase ≡ phase → partner v.what.peer phase ≡ Some p → Member p (others s)
  of_old part phase p at on = was part p (ap (partner v.what.peer) at ∙ on)

  called : (p : ℕ) → e.sent ≡ frames (job_end v p) (end_with t p) (Opening ∷ []) → Member p (others s)
  called p sent = job_sends_to reads_back s past words e run own b.by (_) (subst (Member (_)) (sym sent) (inl refl))

  opened : (p : ℕ) → (end_with t p).opened ≡ true → Member p (others s)
  opened p o = (open_runs reads_back s past run (job_end v p) refl o).peer

  target_is : (p : ℕ) → v.what.peer ≡ Some p → Member p (others s)
  target_is p on = kind_peer s v.what.kind v.what.peer p (aims s past run v (step_runs s past e x b)).0 on

  came : v.part ≡ Drops → (phase : Phase) (p : ℕ) → is_on_one phase ≡ true → Came t e phase → partner v.what.peer phase ≡ Some p → Member p (others s)
  came part (Opens q) p one (inl at) on = of_old part (Opens q) p at on
  came part (Opens q) p one (inr y) on = subst (λ n. Member n (others s)) (same_Some q p on) (called q y.2)
  came part (Greets q) p one (inl at) on = of_old part (Greets q) p at on
  came part (Greets q) p one (inr at) on = of_old part (Opens q) p at on
  came part (AsksLock q since) p one (inl at) on = of_old part (AsksLock q since) p at on
  came part (AsksLock q since) p one (inr y) on = elim (y.0) [
    | inl at ↦ of_old part (Greets q) p at on
    | inr z ↦ subst (λ n. Member n (others s)) (same_Some q p on) (opened q z.2)
  ]
  came part (AsksLook q) p one (inl at) on = of_old part (AsksLook q) p at on
  came part (AsksLook q) p one (inr y) on = of_old part (AsksLock q y.0) p y.1 on
  came part AsksTime p one y on = target_is p on
  came part Orders p one y on = target_is p on
  came part phase p one y on = absurd (cc)

  -- it is none of these, and a drop's
  alone : (phase : Phase) (p : ℕ) → is_on_one phase ≡ false → Fits Drops phase → partner v.what.peer phase ≡ Some p → ⊥
  alone (Opens q) p one f on = cc
  alone (Greets q) p one f on = cc
  alone (AsksLock q since) p one f on = cc
  alone (AsksLook q) p one f on = cc
  alone AsksTime p one f on = cc
  alone Orders p one f on = cc
  alone (Jobs.GetsData q start) p one f on = absurd f
  alone (Jobs.GetsBytes q start size left) p one f on = absurd f
  alone (Jobs.GetsWord q start size) p one f on = absurd f
  alone (Jobs.PutsOffer q) p one f on = absurd f
  alone (Jobs.PutsBytes q start at left) p one f on = absurd f
  alone (Jobs.PutsWord q start) p one f on = absurd f
  alone (Jobs.PutsAnswer q start) p one f on = absurd f
  alone phase p one f on = cc

  abbrev y : Work
  y = work_kind (rows_at past s.number) s.number b.by.w e e.kind

  drop_stood : Stood s y.part y.what.peer y.phase
  drop_stood part p on = elim (was_drop v.part v.phase y.phase good) [
    | inl drops ↦ by_one drops (is_on_one y.phase) refl
    | inr fresh ↦ absurd (let bad : None ≡ Some p = sym (ap (partner y.what.peer) fresh) ∙ on in cc)
  ]
    where
      all : GoodTo v.part v.phase y.part y.phase
      all = subst (Good v) b.work_is (steps_good s past e x b fit)

      good : GoodTo v.part v.phase Drops y.phase
      good = subst (λ q. GoodTo v.part v.phase q y.phase) part all

      what : y.what ≡ v.what
      what = ap (λ (j : RunningJob). j.what) (kind_kept (rows_at past s.number) s.number v e e.kind)

      on' : partner v.what.peer y.phase ≡ Some p
      on' = ap (λ (w : Job). partner w.peer y.phase) (sym what) ∙ on

      by_one : v.part ≡ Drops → (c : Bool) → is_on_one y.phase ≡ c → Member p (others s)
      by_one drops true one = came drops y.phase p one
          ((kind_came t e b.by.made (rows_at past s.number) s.number e.kind (step_kind s past e x b) (step_talk s past e x b fit) fit drops (step_sent s past e x b) b.goes_on) one).1 on'
      by_one drops false one = absurd (alone y.phase p one (drop_fits (subst (λ q. GoodTo q v.phase Drops y.phase) drops good)) on')
        where
          drop_fits : GoodTo Drops v.phase Drops y.phase → Fits Drops y.phase
          drop_fits g = g.0

-- **the partner of a drop is another repository**
pub partner_other : SentAreRead → (s : SetUp) (past : List Entry) → OwnRun s past → (w : Work) → Member w (works past s.number) → w.part ≡ Drops → (p : ℕ) → partner w.what.peer w.phase ≡ Some p → Member p (others s)
partner_other reads_back s past run w m = invariant s (λ p x. Stood s x.part x.what.peer x.phase) (λ p e is x n was. was) own past run w m
  where
    own : (p : List Entry) (e : Entry) → OwnRun s (e ∷ p) → is_of s.number e ≡ true → ((x : Work) → Member x (works p s.number) → Stood s x.part x.what.peer x.phase) → (x : Work) → Origin s p e x → Stood s x.part x.what.peer x.phase
    own p e r is was x (inl b) = λ part q on. absurd (let bad : None ≡ Some q = sym (ap (λ (y : Work). partner y.what.peer y.phase) b.work_is) ∙ on in cc)
    own p e r is was x (inr (inl b)) = was x b.ran
    own p e r is was x (inr (inr b)) =
        let mine = r.0 is in
        subst (λ (y : Work). Stood s y.part y.what.peer y.phase) (sym b.work_is) (drop_stood reads_back s p e r.1 mine.0 mine.1 x b (was b.by.w (step_runs s p e x b)))
