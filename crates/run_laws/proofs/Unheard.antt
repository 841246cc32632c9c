-- Of whom a job has heard nothing: a remote drop of its target, and any drop of the candidate whose answer it awaits.
use Rattle.std.proofs.Common.{◌≡◌, ℕ, true, false, List, ◌∷◌, Some, None, ◌⊎◌, inl, inr, refl, sym, ap, ◌∙◌, subst, true≢false}
use Rattle.std.specs.Prelude.{◌==◌}
use Rattle.std.proofs.lemmas.Bool.{eqb-true, ne_eqb}
use Rattle.annex_base.specs.Lists.{Member}
use Rattle.annex_base.proofs.Conditions.{eqb_refl}
use Rattle.drop_proof.specs.declared.rule.Side.TheVariants.{Remote}
use Rattle.run_data.specs.declared.entry.By.{By}
use Rattle.run_data.specs.declared.entry.Entry.{Entry}
use Rattle.run_data.specs.declared.entry.EntryKind.{EntryKind}
use Rattle.run_data.specs.declared.entry.EntryKind.TheVariants.{Share}
use Rattle.run_data.specs.declared.job.Job.{Job}
use Rattle.run_model.specs.Past.{is_of}
use Rattle.run_model.specs.Run.{OwnPast, OwnRun}
use Rattle.run_model.specs.States.{rows_at, works}
use Rattle.run_model.specs.Words.{awaits_word}
use Rattle.node_model.specs.Found.{IsJobEntry}
use Rattle.node_model.specs.Jobs
use Rattle.node_model.specs.Jobs.{AsksLook, Drops, Gets, Heard, Orders, Part, Phase, Puts, Work, heard_of, side_of, target_of, work_kind}
use Rattle.node_model.specs.Rows.{option_is}
use Rattle.node_model.specs.SetUp.{SetUp}
use Rattle.node_model.specs.Slots.{RunningJob}
use Rattle.run_laws.specs.Jobs.{AreJobs}
use Rattle.job_facts.proofs.Aims.{Aims, aims, other_target}
use Rattle.job_facts.proofs.Asking.{Came, is_on_one, kind_came}
use Rattle.step_facts.proofs.Below.{SentAreRead}
use Rattle.job_facts.proofs.DropReads.{told_of}
use Rattle.run_laws.proofs.HeardHolds.{Asking, Candidate}
use Rattle.run_laws.proofs.HeardInduction.{heard_holds}
use Rattle.job_facts.proofs.HeardLists.{Changed, SameList, kind_changed, share_or, talker_is}
use Rattle.step_facts.proofs.JobKept.{kind_kept}
use Rattle.step_facts.proofs.JobSteps.{Origin, Steps, invariant, turn_at}
use Rattle.run_laws.proofs.LocksHeard.{FreeOf, drop_before, free_of, lock_drops, look_drops}
use Rattle.job_facts.proofs.PhaseFacts.{GoodTo, only_orders}
use Rattle.job_facts.proofs.PhasesFit.{target_peer}
use Rattle.job_facts.proofs.TalkFacts.{Fits}
use Rattle.job_facts.proofs.WorkFits.{good_fits, step_kind, step_runs, step_sent, step_talk, steps_good, works_fit}
use Rattle.step_facts.proofs.WorkNumbers.{same_number_same_work}

-- ---- what a step adds to what was heard, it adds of another than the target

pub record Grown (s : SetUp) (w x : Work) : Type 0 where
  pub part_is : w.part ≡ Drops
  pub whom : ℕ
  pub told : Heard
  pub list : x.heard ≡ (whom, told) ∷ w.heard
  pub other : side_of w ≡ Remote → (target_of s.number w == whom) ≡ false

-- a look is asked of another than the target
abbrev pub LooksElse : SetUp → Work → Type 0
LooksElse s w = (peer : ℕ) → w.phase ≡ AsksLook peer → side_of w ≡ Remote → (target_of s.number w == peer) ≡ false

module _ (s : SetUp) (past : List Entry) (e : Entry) (x : Work) (b : Steps s past e x) (fits : Fits b.by.w.part b.by.w.phase) (aim : Aims s b.by.w) (free : FreeOf s b.by.w) (looks : LooksElse s b.by.w) where
  abbrev v : Work
  v = b.by.w

  own_other : b.by.w.part ≡ Drops → side_of b.by.w ≡ Remote → (target_of s.number b.by.w == s.number) ≡ false
  own_other part side = ne_eqb (target_of s.number v) s.number (other_target s v aim part side)

  grown : SameList b.by.w x ⊎ Grown s b.by.w x
  grown = elim (share_or e.kind) [
    | inl z ↦ shared z.0 z.1 z.2 z.3 z.4
    | inr other ↦ subst (λ (y : Work). SameList v y ⊎ Grown s v y) (sym b.work_is)
        (changed (work_kind (rows_at past s.number) s.number v e e.kind)
        (kind_changed (rows_at past s.number) s.number v e (talker_is (turn_at s past e b.by) e.taken) e.kind other))
  ]
    where
      shared : (hold end : ℕ) (owner : By) (key : List ℕ) → e.kind ≡ Share hold end owner key → SameList v x ⊎ Grown s v x
      shared hold end owner key is =
          let k = subst (IsJobEntry (turn_at s past e b.by) b.by.made) is (step_kind s past e x b) in
          let same : x ≡ Jobs.hears v s.number (Jobs.Held e.time) = b.work_is ∙ ap (λ (q : EntryKind). work_kind (rows_at past s.number) s.number v e q) is in
          inr (record { part_is = k.part_is; whom = s.number; told = Jobs.Held e.time; list = ap (λ (y : Work). y.heard) same; other = own_other k.part_is })

      changed : (y : Work) → Changed (rows_at past s.number) s.number v e y → SameList v y ⊎ Grown s v y
      changed y (inl same) = inl same
      changed y (inr (inl o)) = inr (record { part_is = o.part_is; whom = s.number; told = Jobs.Lacks o.cause; list = o.list; other = own_other o.part_is })
      changed y (inr (inr (inl c))) = inr (record { part_is = c.part_is; whom = c.peer; told = Jobs.Lacks _; list = c.list; other = λ side. c.no_target })
      changed y (inr (inr (inr t))) = elim (t.told) [
        | inl l ↦ inr (record {
          part_is = lock_drops v.part v.phase l.peer l.since fits l.phase_is;
          whom = l.peer;
          told = Jobs.Held l.since;
          list = l.list;
          other = free.asks_other l.peer l.since l.phase_is;
        })
        | inr l ↦ elim (l.told) [
          | inl a ↦ inr (record { part_is = look_drops v.part v.phase l.peer fits l.phase_is; whom = l.peer; told = Jobs.Seen; list = a.1; other = looks l.peer l.phase_is })
          | inr a ↦ inr (record { part_is = look_drops v.part v.phase l.peer fits l.phase_is; whom = l.peer; told = Jobs.Unseen; list = a.1; other = looks l.peer l.phase_is })
        ]
      ]

-- ---- over the entries

pub record TargetUnheard (s : SetUp) (w : Work) : Type 0 where
  pub looks : LooksElse s w
  pub target : w.part ≡ Drops → side_of w ≡ Remote → told_of w.heard (target_of s.number w) ≡ None

heard_other : (c whom : ℕ) (told : Heard) (list : List (ℕ × Heard)) → (c == whom) ≡ false → told_of ((whom, told) ∷ list) c ≡ told_of list c
heard_other c whom told list e =
    let other : (whom == c) ≡ false = ne_eqb whom c (λ same. true≢false (sym (ap (λ n. c == n) same ∙ eqb_refl c) ∙ e)) in
    rw other refl

unheard_first : (s : SetUp) (was : List Work) (job : ℕ) (what : Job) → TargetUnheard s (Jobs.new_work was job what)
unheard_first s was job what = record { looks = λ peer at. absurd (cc); target = λ part side. refl }

pub target_unheard : (s : SetUp) (past : List Entry) → OwnRun s past → (w : Work) → Member w (works past s.number) → TargetUnheard s w
target_unheard s past run w m = invariant s (λ p x. TargetUnheard s x) (λ p e is x n was. was) own past run w m
  where
    own : (p : List Entry) (e : Entry) → OwnRun s (e ∷ p) → is_of s.number e ≡ true → ((x : Work) → Member x (works p s.number) → TargetUnheard s x) → (x : Work) → Origin s p e x → TargetUnheard s x
    own p e r is was x (inl b) = subst (TargetUnheard s) (sym b.work_is) (unheard_first s (works p s.number) b.job b.what)
    own p e r is was x (inr (inl b)) = was x b.ran
    own p e r is was x (inr (inr b)) = record { looks = looks_after; target = target_after }
      where
        v : Work
        v = b.by.w

        runs : Member v (works p s.number)
        runs = step_runs s p e x b

        before : TargetUnheard s v
        before = was v runs

        free : FreeOf s v
        free = free_of s p r.1 v runs

        fits : Fits v.part v.phase
        fits = works_fit s p r.1 v runs

        what : x.what ≡ v.what
        what = ap (λ (y : Work). y.what) b.work_is ∙ ap (λ (j : RunningJob). j.what) (kind_kept (rows_at p s.number) s.number v e e.kind)

        side_was : side_of x ≡ Remote → side_of v ≡ Remote
        side_was side = subst (λ (q : Job). Jobs.drop_side q.kind q.peer ≡ Remote) what side

        target_was : target_of s.number x ≡ target_of s.number v
        target_was = ap (λ (q : Job). Jobs.or_own s.number (Jobs.drop_side q.kind q.peer) q.peer) what

        fits_x : Fits x.part x.phase
        fits_x = good_fits v.part v.phase x.part x.phase (steps_good s p e x b fits)

        looks_after : LooksElse s x
        looks_after peer at side = subst (λ n. (n == peer) ≡ false) (sym target_was) (elim came [
          | inl stood ↦ before.looks peer stood (side_was side)
          | inr locked ↦ free.asks_other peer locked.0 locked.1 (side_was side)
        ])
          where
            part_x : x.part ≡ Drops
            part_x = look_drops x.part x.phase peer fits_x at

            part_v : v.part ≡ Drops
            part_v = drop_before v.part v.phase x.part (AsksLook peer) (subst (GoodTo v.part v.phase x.part) at (steps_good s p e x b fits)) part_x refl

            y : Work
            y = work_kind (rows_at p s.number) s.number v e e.kind

            at_y : y.phase ≡ AsksLook peer
            at_y = sym (ap (λ (z : Work). z.phase) b.work_is) ∙ at

            came : Came (turn_at s p e b.by) e (AsksLook peer)
            came = subst (Came (turn_at s p e b.by) e) at_y
                (kind_came (turn_at s p e b.by) e b.by.made (rows_at p s.number) s.number e.kind (step_kind s p e x b) (step_talk s p e x b fits) fits part_v (step_sent s p e x b) b.goes_on (ap is_on_one at_y)).1

        target_after : x.part ≡ Drops → side_of x ≡ Remote → told_of x.heard (target_of s.number x) ≡ None
        target_after part side = subst (λ n. told_of x.heard n ≡ None) (sym target_was) (elim (grown s p e x b fits (aims s p r.1 v runs) free before.looks) [
          | inl same ↦ ap (λ (hs : List (ℕ × Heard)). told_of hs (target_of s.number v)) same ∙ was_unheard v.part refl
          | inr g ↦ ap (λ (hs : List (ℕ × Heard)). told_of hs (target_of s.number v)) g.list
              ∙ heard_other (target_of s.number v) g.whom g.told v.heard (g.other (side_was side)) ∙ before.target g.part_is (side_was side)
        ])
          where
            was_unheard : (q : Part) → v.part ≡ q → told_of v.heard (target_of s.number v) ≡ None
            was_unheard Drops at = before.target at (side_was side)
            was_unheard Gets at = ap (λ (hs : List (ℕ × Heard)). told_of hs (target_of s.number v)) (free.none (λ drops. let no' : Gets ≡ Drops = sym at ∙ drops in cc))
            was_unheard Puts at = ap (λ (hs : List (ℕ × Heard)). told_of hs (target_of s.number v)) (free.none (λ drops. let no' : Puts ≡ Drops = sym at ∙ drops in cc))

-- ---- the running jobs

pub are_jobs : SentAreRead → (s : SetUp) (past : List Entry) → OwnPast s past → AreJobs (works past s.number)
are_jobs reads_back s past h = record {
  apart = λ w v there also same. same_number_same_work s past h.run w v there also same;
  orders = orders;
  looks = looks;
  unheard = λ w c there awaits. unheard w c there w.phase refl awaits;
}
  where
    drops : (w : Work) → Member w (works past s.number) → w.phase ≡ Orders → w.part ≡ Drops
    drops w there at = only_orders w.part (subst (Fits w.part) at (works_fit s past h.run w there))

    remote : (w : Work) → Member w (works past s.number) → w.phase ≡ Orders → side_of w ≡ Remote
    remote w there at = subst (Asking s past (Jobs.running_job w) w.heard) at ((heard_holds reads_back s past h w there).asking (drops w there at))

    orders : (w : Work) → Member w (works past s.number) → w.phase ≡ Orders → (side_of w ≡ Remote) × (peer : ℕ) × (w.what.peer ≡ Some peer)
    orders w there at = (remote w there at, target_of s.number w, target_peer s w (aims s past h.run w there) (drops w there at) (remote w there at))

    looks : (w : Work) (c : ℕ) → Member w (works past s.number) → w.phase ≡ AsksLook c → side_of w ≡ Remote → option_is w.what.peer c ≡ false
    looks w c there at side =
        let part = look_drops w.part w.phase c (works_fit s past h.run w there) at in
        ap (λ o. option_is o c) (target_peer s w (aims s past h.run w there) part side) ∙ (target_unheard s past h.run w there).looks c at side

    unheard : (w : Work) (c : ℕ) → Member w (works past s.number) → (phase : Phase) → w.phase ≡ phase → awaits_word c w.what.peer w.phase ≡ true → heard_of w c ≡ None
    unheard w c there phase at awaits = go phase at (sym (ap (awaits_word c w.what.peer) at) ∙ awaits)
      where
        go : (phase : Phase) → w.phase ≡ phase → awaits_word c w.what.peer phase ≡ true → heard_of w c ≡ None
        go (AsksLook peer) at is =
            let part = look_drops w.part w.phase peer (works_fit s past h.run w there) at in
            let asks : Candidate s past (Jobs.running_job w) w.heard peer = subst (Asking s past (Jobs.running_job w) w.heard) at ((heard_holds reads_back s past h w there).asking part) in
            subst (λ n. told_of w.heard n ≡ None) (eqb-true peer c is) asks.unheard
        go Orders at is =
            let part = drops w there at in
            let side = remote w there at in
            let peer : w.what.peer ≡ Some (target_of s.number w) = target_peer s w (aims s past h.run w there) part side in
            let same : (target_of s.number w == c) ≡ true = sym (ap (λ o. option_is o c) peer) ∙ is in
            subst (λ n. told_of w.heard n ≡ None) (eqb-true (target_of s.number w) c same) ((target_unheard s past h.run w there).target part side)
        go phase at is = absurd (true≢false (sym is))
