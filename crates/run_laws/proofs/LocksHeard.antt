-- Of whom a job has a lock: in its transfer of nobody, and a remote drop not of its target; and what it has it keeps.
use Rattle.std.proofs.Common.{◌≡◌, ◌≢◌, ℕ, Bool, true, false, List, [], ◌∷◌, Option, Some, ◌⊎◌, inl, inr, refl, sym, ap, ◌∙◌, subst}
use Rattle.std.specs.Prelude.{◌==◌, find, option_map}
use Rattle.std.proofs.lemmas.Bool.{true≢false, eqb-true, ne_eqb}
use Rattle.annex_base.specs.Lists.{Member}
use Rattle.annex_base.proofs.Conditions.{eqb_refl}
use Rattle.drop_proof.specs.declared.rule.Side.TheVariants.{Remote}
use Rattle.run_data.specs.declared.entry.Entry.{Entry}
use Rattle.run_data.specs.declared.entry.EntryKind.{EntryKind}
use Rattle.run_data.specs.declared.entry.EntryKind.TheVariants.{Share}
use Rattle.run_data.specs.declared.job.Job.{Job}
use Rattle.node_model.specs.Slots.{RunningJob}
use Rattle.run_model.specs.Past.{is_of}
use Rattle.node_model.specs.Rows.{option_is}
use Rattle.node_model.specs.SetUp.{SetUp}
use Rattle.node_model.specs.Jobs
use Rattle.node_model.specs.Jobs.{AsksLock, AsksLook, Drops, Gets, Heard, Part, Phase, Puts, Work, partner, side_of, target_of, work_kind}
use Rattle.run_model.specs.States.{rows_at, works}
use Rattle.node_model.specs.JobStep.{is_held}
use Rattle.run_model.specs.Run.{OwnRun}
use Rattle.node_model.specs.Found.{IsJobEntry}
use Rattle.step_facts.proofs.JobSteps.{Origin, Steps, invariant, turn_at}
use Rattle.step_facts.proofs.JobKept.{kind_kept}
use Rattle.job_facts.proofs.TalkFacts.{Fits}
use Rattle.job_facts.proofs.PhaseFacts.{GoodTo}
use Rattle.job_facts.proofs.WorkFits.{drops_stay, good_fits, step_kind, step_runs, step_sent, step_talk, steps_good, works_fit}
use Rattle.job_facts.proofs.HeardLists.{Changed, SameList, kind_changed, share_or, talker_is}
use Rattle.job_facts.proofs.Asking.{Came, is_on_one, kind_came}
use Rattle.job_facts.proofs.Aims.{aims, other_target}
use Rattle.job_facts.proofs.Dialogue.{kept}

-- ---- a longer list

abbrev held_in : List (ℕ × Heard) → ℕ → Bool
held_in heard p = is_held (option_map (λ x. x.1) (find (λ x. x.0 == p) heard))

first_held : (q : ℕ) (h : Heard) (heard : List (ℕ × Heard)) (p : ℕ) → (q == p) ≡ true → held_in ((q, h) ∷ heard) p ≡ is_held (Some h)
first_held q h heard p e = rw e refl

other_held : (q : ℕ) (h : Heard) (heard : List (ℕ × Heard)) (p : ℕ) → (q == p) ≡ false → held_in ((q, h) ∷ heard) p ≡ held_in heard p
other_held q h heard p e = rw e refl

-- ---- how a step changes the list

-- it stays, or is longer by what is heard of one: of itself, by a drop; of its partner, by a drop
pub record Longer (r : ℕ) (w x : Work) : Type 0 where
  pub part_is : w.part ≡ Drops
  pub whom : ℕ
  pub told : Heard
  pub list : x.heard ≡ (whom, told) ∷ w.heard
  pub from : (whom ≡ r) ⊎ (partner w.what.peer w.phase ≡ Some whom)
  pub lock : is_held (Some told) ≡ true → (whom ≡ r) ⊎ ((since : ℕ) × (w.phase ≡ AsksLock whom since))

pub lock_drops : (part : Part) (phase : Phase) (p since : ℕ) → Fits part phase → phase ≡ AsksLock p since → part ≡ Drops
lock_drops part phase p since fits is = go part (subst (Fits part) is fits)
  where
    go : (part : Part) → Fits part (AsksLock p since) → part ≡ Drops
    go Drops f = refl
    go Gets f = absurd f
    go Puts f = absurd f

pub look_drops : (part : Part) (phase : Phase) (p : ℕ) → Fits part phase → phase ≡ AsksLook p → part ≡ Drops
look_drops part phase p fits is = go part (subst (Fits part) is fits)
  where
    go : (part : Part) → Fits part (AsksLook p) → part ≡ Drops
    go Drops f = refl
    go Gets f = absurd f
    go Puts f = absurd f

module _ (s : SetUp) (past : List Entry) (e : Entry) (x : Work) (b : Steps s past e x) (fits : Fits b.by.w.part b.by.w.phase) where
  abbrev v : Work
  v = b.by.w

  pub longer : SameList v x ⊎ Longer s.number v x
  longer = elim (share_or e.kind) [
    | inl z ↦ shared z.0 z.1 z.2 z.3 z.4
    | inr other ↦ subst (λ (y : Work). SameList v y ⊎ Longer s.number v y) (sym b.work_is)
        (changed (work_kind (rows_at past s.number) s.number v e e.kind)
        (kind_changed (rows_at past s.number) s.number v e (talker_is (turn_at s past e b.by) e.taken) e.kind other))
  ]
    where
      shared : (hold end : ℕ) (owner : _) (key : List ℕ) → e.kind ≡ Share hold end owner key → SameList v x ⊎ Longer s.number v x
      shared hold end owner key is =
          let k = subst (IsJobEntry (turn_at s past e b.by) b.by.made) is (step_kind s past e x b) in
          let same : x ≡ Jobs.hears v s.number (Jobs.Held e.time) = b.work_is ∙ ap (λ (q : EntryKind). work_kind (rows_at past s.number) s.number v e q) is in
          inr (record { part_is = k.part_is; whom = s.number; told = Jobs.Held e.time; list = ap (λ (y : Work). y.heard) same; from = inl refl; lock = λ h. inl refl })

      changed : (y : Work) → Changed (rows_at past s.number) s.number v e y → SameList v y ⊎ Longer s.number v y
      changed y (inl same) = inl same
      changed y (inr (inl o)) = inr (record { part_is = o.part_is; whom = s.number; told = Jobs.Lacks o.cause; list = o.list; from = inl refl; lock = λ h. inl refl })
      changed y (inr (inr (inl c))) = inr (record { part_is = c.part_is; whom = c.peer; told = Jobs.Lacks _; list = c.list; from = inr c.on; lock = λ h. absurd (cc) })
      changed y (inr (inr (inr t))) = elim (t.told) [
        | inl l ↦ inr (record {
          part_is = lock_drops v.part v.phase l.peer l.since fits l.phase_is;
          whom = l.peer;
          told = Jobs.Held l.since;
          list = l.list;
          from = inr (ap (partner v.what.peer) l.phase_is);
          lock = λ h. inr (l.since, l.phase_is);
        })
        | inr l ↦ elim (l.told) [
          | inl a ↦ inr (record { part_is = look_drops v.part v.phase l.peer fits l.phase_is; whom = l.peer; told = Jobs.Seen; list = a.1; from = inr (ap (partner v.what.peer) l.phase_is); lock = λ h. absurd (cc) })
          | inr a ↦ inr (record { part_is = look_drops v.part v.phase l.peer fits l.phase_is; whom = l.peer; told = Jobs.Unseen; list = a.1; from = inr (ap (partner v.what.peer) l.phase_is); lock = λ h. absurd (cc) })
        ]
      ]

  -- **a lock stays**
  pub lock_stays : (p : ℕ) → p ≢ s.number → option_is (partner v.what.peer v.phase) p ≡ false → kept v p ≡ true → kept x p ≡ true
  lock_stays p apart off was = elim longer [
    | inl same ↦ ap (λ (hs : List (ℕ × Heard)). held_in hs p) same ∙ was
    | inr l ↦ ap (λ (hs : List (ℕ × Heard)). held_in hs p) l.list ∙ (other_held l.whom l.told v.heard p (whom_other l) ∙ was)
  ]
    where
      whom_other : (l : Longer s.number v x) → (l.whom == p) ≡ false
      whom_other l = elim (l.from) [
        | inl own ↦ ne_eqb l.whom p (λ same. apart (sym same ∙ own))
        | inr on ↦ (let y : option_is (Some l.whom) p ≡ false = subst (λ (o : Option ℕ). option_is o p ≡ false) on off in y)
      ]

-- ---- of whom there is no lock

pub record FreeOf (s : SetUp) (w : Work) : Type 0 where
  pub none : w.part ≢ Drops → w.heard ≡ []
  pub asks_other : (peer since : ℕ) → w.phase ≡ AsksLock peer since → side_of w ≡ Remote → (target_of s.number w == peer) ≡ false
  pub target_free : w.part ≡ Drops → side_of w ≡ Remote → kept w (target_of s.number w) ≡ false

-- a drop that goes on was one
pub drop_before : (part : Part) (old : Phase) (to : Part) (phase : Phase) → GoodTo part old to phase → to ≡ Drops → is_on_one phase ≡ true → part ≡ Drops
drop_before Drops old to phase g is on = refl
drop_before Gets old Drops phase g is on = absurd (let no' : is_on_one Jobs.Fresh ≡ true = subst (λ q. is_on_one q ≡ true) g on in cc)
drop_before Puts old Drops phase g is on = absurd (let no' : is_on_one Jobs.Fresh ≡ true = subst (λ q. is_on_one q ≡ true) g on in cc)
drop_before Gets old Gets phase g is on = absurd (cc)
drop_before Gets old Puts phase g is on = absurd (cc)
drop_before Puts old Gets phase g is on = absurd (cc)
drop_before Puts old Puts phase g is on = absurd (cc)

free_first : (s : SetUp) (was : List Work) (job : ℕ) (what : Job) → FreeOf s (Jobs.new_work was job what)
free_first s was job what = record { none = λ n. refl; asks_other = λ peer since is. absurd (cc); target_free = λ p side. refl }

pub free_of : (s : SetUp) (past : List Entry) → OwnRun s past → (w : Work) → Member w (works past s.number) → FreeOf s w
free_of s past run w m = invariant s (λ p x. FreeOf s x) (λ p e is x n was. was) own past run w m
  where
    own : (p : List Entry) (e : Entry) → OwnRun s (e ∷ p) → is_of s.number e ≡ true → ((x : Work) → Member x (works p s.number) → FreeOf s x) → (x : Work) → Origin s p e x → FreeOf s x
    own p e r is was x (inl b) = subst (FreeOf s) (sym b.work_is) (free_first s (works p s.number) b.job b.what)
    own p e r is was x (inr (inl b)) = was x b.ran
    own p e r is was x (inr (inr b)) = record { none = none; asks_other = other; target_free = free }
      where
        v : Work
        v = b.by.w

        runs : Member v (works p s.number)
        runs = step_runs s p e x b

        before : FreeOf s v
        before = was v runs

        fits : Fits v.part v.phase
        fits = works_fit s p r.1 v runs

        long : SameList v x ⊎ Longer s.number v x
        long = longer s p e x b fits

        what : x.what ≡ v.what
        what = ap (λ (y : Work). y.what) b.work_is ∙ ap (λ (j : RunningJob). j.what) (kind_kept (rows_at p s.number) s.number v e e.kind)

        side_was : side_of x ≡ Remote → side_of v ≡ Remote
        side_was side = subst (λ (q : Job). Jobs.drop_side q.kind q.peer ≡ Remote) what side

        target_was : target_of s.number x ≡ target_of s.number v
        target_was = ap (λ (q : Job). Jobs.or_own s.number (Jobs.drop_side q.kind q.peer) q.peer) what

        later : v.part ≡ Drops → x.part ≡ Drops
        later part = drops_stay v.part v.phase x.part x.phase (steps_good s p e x b fits) part

        none : x.part ≢ Drops → x.heard ≡ []
        none apart = elim long [
          | inl same ↦ same ∙ before.none (λ part. apart (later part))
          | inr l ↦ absurd (apart (later l.part_is))
        ]

        fits_x : Fits x.part x.phase
        fits_x = good_fits v.part v.phase x.part x.phase (steps_good s p e x b fits)

        -- a lock is asked of another than the target
        other : (peer since : ℕ) → x.phase ≡ AsksLock peer since → side_of x ≡ Remote → (target_of s.number x == peer) ≡ false
        other peer since at side = subst (λ n. (n == peer) ≡ false) (sym target_was) (elim came [
          | inl stood ↦ before.asks_other peer since stood (side_was side)
          | inr asks ↦ asks.1 (side_was side)
        ])
          where
            part_x : x.part ≡ Drops
            part_x = lock_drops x.part x.phase peer since fits_x at

            part_v : v.part ≡ Drops
            part_v = drop_before v.part v.phase x.part (AsksLock peer since) (subst (GoodTo v.part v.phase x.part) at (steps_good s p e x b fits)) part_x refl

            y : Work
            y = work_kind (rows_at p s.number) s.number v e e.kind

            at_y : y.phase ≡ AsksLock peer since
            at_y = sym (ap (λ (z : Work). z.phase) b.work_is) ∙ at

            came : Came (turn_at s p e b.by) e (AsksLock peer since)
            came = subst (Came (turn_at s p e b.by) e) at_y
                (kind_came (turn_at s p e b.by) e b.by.made (rows_at p s.number) s.number e.kind (step_kind s p e x b) (step_talk s p e x b fits) fits part_v (step_sent s p e x b) b.goes_on (ap is_on_one at_y)).1

        free : x.part ≡ Drops → side_of x ≡ Remote → kept x (target_of s.number x) ≡ false
        free part side = subst (λ n. kept x n ≡ false) (sym target_was) (elim long [
          | inl same ↦ ap (λ (hs : List (ℕ × Heard)). held_in hs (target_of s.number v)) same ∙ was_free v.part refl
          | inr l ↦ ap (λ (hs : List (ℕ × Heard)). held_in hs (target_of s.number v)) l.list ∙ of_longer l (l.whom == target_of s.number v) refl
        ])
          where
            was_free : (q : Part) → v.part ≡ q → kept v (target_of s.number v) ≡ false
            was_free Drops at = before.target_free at (side_was side)
            was_free Gets at = ap (λ (hs : List (ℕ × Heard)). held_in hs (target_of s.number v)) (before.none (λ drops. let no' : Gets ≡ Drops = sym at ∙ drops in cc))
            was_free Puts at = ap (λ (hs : List (ℕ × Heard)). held_in hs (target_of s.number v)) (before.none (λ drops. let no' : Puts ≡ Drops = sym at ∙ drops in cc))

            of_longer : (l : Longer s.number v x) → (c : Bool) → (l.whom == target_of s.number v) ≡ c → held_in ((l.whom, l.told) ∷ v.heard) (target_of s.number v) ≡ false
            of_longer l false e = other_held l.whom l.told v.heard (target_of s.number v) e ∙ before.target_free l.part_is (side_was side)
            of_longer l true e = first_held l.whom l.told v.heard (target_of s.number v) e ∙ not_held (is_held (Some l.told)) refl
              where
                same : l.whom ≡ target_of s.number v
                same = eqb-true l.whom (target_of s.number v) e

                not_held : (c : Bool) → is_held (Some l.told) ≡ c → c ≡ false
                not_held false h = refl
                not_held true h = absurd (elim (l.lock h) [
                  | inl own ↦ other_target s v (aims s p r.1 v runs) l.part_is (side_was side) (sym same ∙ own)
                  | inr asks ↦ true≢false (sym (ap (λ n. target_of s.number v == n) same ∙ eqb_refl (target_of s.number v)) ∙ before.asks_other l.whom asks.0 asks.1 (side_was side))
                ])
