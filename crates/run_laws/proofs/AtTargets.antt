-- A remote drop that stands at its target knows enough, and what it read is fixed from the first step of its drop.
use Rattle.std.proofs.Common.{◌≡◌, ◌≢◌, ℕ, Bool, true, false, List, [], ◌∷◌, Some, ◌⊎◌, inl, inr, refl, sym, ap, ◌∙◌, subst}
use Rattle.std.specs.Prelude.{◌&&◌, length}
use Rattle.std.proofs.lemmas.Bool.{and_from, or_left, or_right}
use Rattle.annex_base.specs.Lists.{Member}
use Rattle.annex_base.specs.Settings.{Settings}
use Rattle.step_facts.proofs.Below.{SentAreRead}
use Rattle.drop_proof.specs.declared.rule.Side.TheVariants.{Remote}
use Rattle.drop_proof.specs.Judging.{is_enough}
use Rattle.run_data.specs.declared.entry.Entry.{Entry}
use Rattle.run_data.specs.declared.job.Job.{Job}
use Rattle.run_data.specs.Repos.{id_of}
use Rattle.node_model.specs.Slots.{RunningJob}
use Rattle.run_model.specs.Past.{clock_set, is_of}
use Rattle.node_model.specs.Clocks.{runs_on}
use Rattle.run_model.specs.Logs.{before_step, in_drop, read_at, settings_of, starts_drop}
use Rattle.node_model.specs.Evidence.{candidates, gather, reached_candidates, standing_by}
use Rattle.node_model.specs.SetUp.{SetUp}
use Rattle.node_model.specs.State.{State}
use Rattle.run_model.specs.States.{state_of, rows_at, works}
use Rattle.node_model.specs.Jobs
use Rattle.node_model.specs.Jobs.{Drops, Fresh, Gets, Heard, Part, Phase, Puts, Work, running_job, side_of, target_of, work_kind}
use Rattle.node_model.specs.Knows.{is_unasked, offer_by, standing_of, need_by}
use Rattle.step_facts.proofs.Knowing.{knows_enough}
use Rattle.run_model.specs.Run.{OwnPast}
use Rattle.step_facts.proofs.JobKept.{kind_kept}
use Rattle.job_facts.proofs.PhaseFacts.{GoodTo, is_fresh}
use Rattle.step_facts.proofs.JobSteps.{Origin, Steps, invariant, turn_at}
use Rattle.run_laws.proofs.ClockKept.{clock_kept, clock_other, stepped_stands}
use Rattle.job_facts.proofs.WorkFits.{step_kind, step_number, step_runs, step_sent, step_talk, steps_good, works_fit}
use Rattle.job_facts.proofs.Targets.{at_target, kind_comes}
use Rattle.step_facts.proofs.BySteps.{earlier}
use Rattle.job_facts.proofs.DropReads.{begun_drop, read_kept, stays_read, step_read, told_of}
use Rattle.run_laws.proofs.MovesBegun.{moves_begun}

-- ---- what a judgement reads

-- the offers and the evidence, of what was read and heard
abbrev pub enough_of : SetUp → (ℕ → ℕ) → Settings → List (List ℕ) → Job → List (ℕ × Heard) → Bool
enough_of s clock read paths what heard =
    let side = Jobs.drop_side what.kind what.peer in
    let need = need_by read paths in
    is_enough side need
    (gather side need (λ c. offer_by clock (standing_by read what.key (id_of s.repos c)) (told_of heard c))
    (reached_candidates (λ c. is_unasked (standing_by read what.key (id_of s.repos c)) (told_of heard c)) (candidates side (length s.repos) s.number (Jobs.or_own s.number side what.peer))) [])

enough_is : (s : SetUp) (st : State) (w : Work) → knows_enough s st w ≡ enough_of s st.clock (st.read w.number) (s.paths w.number) w.what w.heard
unfolding standing_of
enough_is s st w = refl

-- the clock, what was read and what was heard decide what a job knows
pub enough_same : (s : SetUp) (st other : State) (w v : Work) → st.clock ≡ other.clock → st.read w.number ≡ other.read v.number → w.number ≡ v.number → w.what ≡ v.what → w.heard ≡ v.heard → knows_enough s st w ≡ knows_enough s other v
enough_same s st other w v clock read number what heard =
    enough_is s st w ∙ (λ i. enough_of s (clock i) (read i) (s.paths (number i)) (what i) (heard i)) ∙ sym (enough_is s other v)

-- ---- a drop at its target

-- the job's drop has begun, by the entries; what it read is fixed; and at its target it knows enough
abbrev pub Began : SetUp → List Entry → Work → Type 0
Began s past w = w.part ≡ Drops → in_drop past s.number w.number ≡ true

abbrev pub HasRead : SetUp → List Entry → Work → Type 0
HasRead s past w = w.part ≡ Drops → is_fresh w.phase ≡ false → (b : List Entry) × (before_step past s.number w.number ≡ Some b)

abbrev pub Sure : SetUp → List Entry → Work → Type 0
Sure s past w = w.part ≡ Drops → side_of w ≡ Remote → target_of s.number w ≢ s.number → at_target (target_of s.number w) w.phase ≡ true → knows_enough s (state_of s past) w ≡ true

abbrev pub AtTarget : SetUp → List Entry → Work → Type 0
AtTarget s past w = Began s past w × HasRead s past w × Sure s past w

target_fresh : (n : ℕ) (phase : Phase) → at_target n phase ≡ true → is_fresh phase ≡ false
target_fresh n Fresh at = absurd (cc)
target_fresh n phase at = refl

pub was_drop : (part : Part) (old : Phase) (to : Part) (phase : Phase) → GoodTo part old to phase → to ≡ Drops → is_fresh phase ≡ false → part ≡ Drops
was_drop Drops old to phase g is later = refl
was_drop Gets old Drops phase g is later = absurd (let fresh : is_fresh Fresh ≡ false = subst (λ p. is_fresh p ≡ false) g later in cc)
was_drop Puts old Drops phase g is later = absurd (let fresh : is_fresh Fresh ≡ false = subst (λ p. is_fresh p ≡ false) g later in cc)
was_drop Gets old Gets phase g is later = absurd (cc)
was_drop Gets old Puts phase g is later = absurd (cc)
was_drop Puts old Gets phase g is later = absurd (cc)
was_drop Puts old Puts phase g is later = absurd (cc)

kept_at : (s : SetUp) (past : List Entry) (e : Entry) (w : Work) → clock_set s.repos (e ∷ past) s.number ≡ clock_set s.repos past s.number → AtTarget s past w → AtTarget s (e ∷ past) w
kept_at s past e w same x = (
  λ part. or_left (in_drop past s.number w.number) (is_of s.number e && starts_drop past s.number w.number e e.kind) (x.0 part),
  λ part later. read_kept past e s.number w.number (x.1 part later),
  λ part side apart at.
      let read = x.1 part (target_fresh (target_of s.number w) w.phase at) in
      enough_same s (state_of s (e ∷ past)) (state_of s past) w w (ap (λ c. runs_on c) same) (stays_read past e s.number w.number read) refl refl refl ∙ x.2 part side apart at,
)

module _ (reads_back : SentAreRead) (s : SetUp) where
  step_began : (p : List Entry) (e : Entry) → OwnPast s (e ∷ p) → is_of s.number e ≡ true → (x : Work) (b : Steps s p e x) → Began s p b.by.w → x.part ≡ Drops → in_drop (e ∷ p) s.number x.number ≡ true
  step_began p e r is x b was part = go b.by.w.part refl
    where
      number : x.number ≡ b.by.w.number
      number = step_number s p e x b

      new : b.by.w.part ≢ Drops → in_drop (e ∷ p) s.number x.number ≡ true
      new apart = or_right (in_drop p s.number x.number) (is_of s.number e && starts_drop p s.number x.number e e.kind)
          (and_from (is_of s.number e) (starts_drop p s.number x.number e e.kind) is (moves_begun reads_back s p e r is x b apart part))

      go : (q : Part) → b.by.w.part ≡ q → in_drop (e ∷ p) s.number x.number ≡ true
      go Drops at = or_left (in_drop p s.number x.number) (is_of s.number e && starts_drop p s.number x.number e e.kind) (subst (λ n. in_drop p s.number n ≡ true) (sym number) (was at))
      go Gets at = new (λ d. let no_part : Gets ≡ Drops = sym at ∙ d in cc)
      go Puts at = new (λ d. let no_part : Puts ≡ Drops = sym at ∙ d in cc)

  step_at : (p : List Entry) (e : Entry) → OwnPast s (e ∷ p) → is_of s.number e ≡ true → ((x : Work) → Member x (works p s.number) → AtTarget s p x) → (x : Work) → Steps s p e x → AtTarget s (e ∷ p) x
  step_at p e r is was x b =
      let v = b.by.w in
      let runs = step_runs s p e x b in
      let fits = works_fit s p r.run.1 v runs in
      let good = steps_good s p e x b fits in
      let same : running_job x ≡ running_job v = ap running_job b.work_is ∙ kind_kept (rows_at p s.number) s.number v e e.kind in
      let what : x.what ≡ v.what = ap (λ (j : RunningJob). j.what) same in
      let number : x.number ≡ v.number = ap (λ (j : RunningJob). j.number) same in (
        step_began p e r is x b (was v runs).0,
        λ part later.
            let v_part : v.part ≡ Drops = was_drop v.part v.phase x.part x.phase good part later in
            subst (λ n. (c : List Entry) × (before_step (e ∷ p) s.number n ≡ Some c)) (sym number) (step_read p e s.number v.number is b.step ((was v runs).0 v_part)).0,
        λ part side apart at.
            let later = target_fresh (target_of s.number x) x.phase at in
            let v_part : v.part ≡ Drops = was_drop v.part v.phase x.part x.phase good part later in
            let v_side : side_of v ≡ Remote = subst (λ (q : Job). Jobs.drop_side q.kind q.peer ≡ Remote) what side in
            let v_apart : target_of s.number v ≢ s.number = subst (λ (q : Job). Jobs.or_own s.number (Jobs.drop_side q.kind q.peer) q.peer ≢ s.number) what apart in
            let after = work_kind (rows_at p s.number) s.number v e e.kind in
            let at_x : at_target (target_of s.number v) x.phase ≡ true = subst (λ (q : Job). at_target (Jobs.or_own s.number (Jobs.drop_side q.kind q.peer) q.peer) x.phase ≡ true) what at in
            let at_after : at_target (target_of s.number v) after.phase ≡ true = subst (λ (y : Work). at_target (target_of s.number v) y.phase ≡ true) b.work_is at_x in
            let came = kind_comes (turn_at s p e b.by) b.by.made (rows_at p s.number) s.number e e.kind (step_kind s p e x b) (step_talk s p e x b fits) fits v_part v_side v_apart (step_sent s p e x b) b.goes_on at_after in
            let heard : x.heard ≡ v.heard = ap (λ (y : Work). y.heard) b.work_is ∙ came.0 in
            let knew : knows_enough s (state_of s p) v ≡ true = knew_by (was v runs) v_part v_side v_apart came.1 in
            let same_read = (step_read p e s.number v.number is b.step ((was v runs).0 v_part)).1 in
            let read : settings_of (read_at (e ∷ p) s.number x.number) s.number ≡ settings_of (read_at p s.number v.number) s.number =
            ap (λ n. settings_of (read_at (e ∷ p) s.number n) s.number) number ∙ ap (λ q. settings_of q s.number) same_read in
            enough_same s (state_of s (e ∷ p)) (state_of s p) x v (ap (λ c. runs_on c) (clock_kept s.repos p s.number e (stepped_stands s p e b.by))) read number what heard ∙ knew,
      )
    where
      knew_by : AtTarget s p b.by.w → b.by.w.part ≡ Drops → side_of b.by.w ≡ Remote → target_of s.number b.by.w ≢ s.number
          → (at_target (target_of s.number b.by.w) b.by.w.phase ≡ true) ⊎ (knows_enough s (state_of s p) b.by.w ≡ true) → knows_enough s (state_of s p) b.by.w ≡ true
      knew_by x part side apart (inl at) = x.2 part side apart at
      knew_by x part side apart (inr knew) = knew

  -- the drop of a running job has begun by the entries too; what it read is fixed from its first step; and a remote
  -- drop that stands at its target knows enough
  pub at_targets : (past : List Entry) → OwnPast s past → (w : Work) → Member w (works past s.number) → AtTarget s past w
  at_targets past h w m = invariant s (λ p x. OwnPast s p → AtTarget s p x) (λ p e is x n was h. kept_at s p e x (clock_other s.repos p s.number e is) (was (earlier s p e h)))
      (λ p e r is was x o h. own p e h is (λ y n. was y n (earlier s p e h)) x o) past h.run w m h
    where
      own : (p : List Entry) (e : Entry) → OwnPast s (e ∷ p) → is_of s.number e ≡ true → ((x : Work) → Member x (works p s.number) → AtTarget s p x)
          → (x : Work) → Origin s p e x → AtTarget s (e ∷ p) x
      own p e r is was x (inl b) =
          let fresh : x.phase ≡ Fresh = ap (λ (y : Work). y.phase) b.work_is in (
            begun_drop s p e x is b,
            λ part later. absurd (let now : is_fresh Fresh ≡ false = subst (λ q. is_fresh q ≡ false) fresh later in cc),
            λ part side apart at. absurd (let now : at_target (target_of s.number x) Fresh ≡ true = subst (λ q. at_target (target_of s.number x) q ≡ true) fresh at in cc),
          )
      own p e r is was x (inr (inl b)) = kept_at s p e x (clock_kept s.repos p s.number e b.no_crash) (was x b.ran)
      own p e r is was x (inr (inr b)) = step_at p e r is was x b
