-- A drop that goes on from its first step found that its target doesn't require the content.
use Rattle.std.proofs.Common.{◌≡◌, ℕ, Bool, true, false, List, [], ◌∷◌, Option, Some, None, ◌⊎◌, inl, inr, refl, sym, ap, ◌∙◌, subst}
use Rattle.std.specs.Prelude.{if◌then◌else◌, not, ◌&&◌}
use Rattle.std.specs.List.{list_all}
use Rattle.annex_base.specs.Lists.{Member}
use Rattle.annex_base.specs.Settings.{Settings}
use Rattle.step_facts.proofs.Below.{SentAreRead}
use Rattle.drop_proof.specs.declared.rule.Side.TheVariants.{Remote}
use Rattle.run_data.specs.declared.entry.Entry.{Entry}
use Rattle.run_data.specs.declared.entry.EntryKind.{EntryKind}
use Rattle.run_data.specs.declared.entry.EntryKind.TheVariants.{End as ends_job}
use Rattle.run_data.specs.declared.job.Job.{Job}
use Rattle.run_data.specs.declared.job.Outcome.{Outcome}
use Rattle.run_data.specs.declared.job.Outcome.TheVariants.{Refused}
use Rattle.run_data.specs.declared.job.DropRefusal.TheVariants as refusals
use Rattle.run_data.specs.Repos.{id_of}
use Rattle.node_model.specs.Slots.{RunningJob}
use Rattle.run_model.specs.Past.{holds, is_of}
use Rattle.node_model.specs.Rows.{is_lost_ordered}
use Rattle.run_model.specs.Logs.{read_at, settings_of}
use Rattle.node_model.specs.SetUp.{SetUp}
use Rattle.node_model.specs.Jobs
use Rattle.node_model.specs.Jobs.{Drops, Fresh, Work, partner, running_job, side_of, target_of}
use Rattle.run_model.specs.States.{rows_at, works}
use Rattle.node_model.specs.Calls.{to_release}
use Rattle.node_model.specs.Look.{Effect}
use Rattle.node_model.specs.JobStep.{Turn, ends, farewells, owns_share}
use Rattle.node_model.specs.DropStep.{first_drop, first_remote, required_there}
use Rattle.node_model.specs.Turns.{by_partner, goes, has_room, needs}
use Rattle.wanted_expr.specs.Wanted.{required}
use Rattle.run_model.specs.Run.{OwnPast, OwnRun}
use Rattle.step_facts.proofs.JobKept.{kind_kept}
use Rattle.step_facts.proofs.JobSteps.{Origin, Steps, invariant, turn_at}
use Rattle.job_facts.proofs.PhaseFacts.{is_fresh}
use Rattle.job_facts.proofs.WorkFits.{step_runs, steps_good, works_fit}
use Rattle.job_facts.proofs.Untouched.{fresh_is}
use Rattle.job_facts.proofs.Starts.{starts_unasked}
use Rattle.step_facts.proofs.ClientSteps.{attempts_even}
use Rattle.job_facts.proofs.GetsBegin.{no_release, owns_none, unasked_unheld}
use Rattle.job_facts.proofs.NotDropping.{moved_on}
use Rattle.job_facts.proofs.DropReads.{stays_read, step_read}
use Rattle.step_facts.proofs.BySteps.{earlier}
use Rattle.run_laws.proofs.AtTargets.{at_targets, was_drop}

-- ---- its first step

-- a drop that is to begin
abbrev begins : Turn → Turn
begins before = record before { w = record before.w { part = Drops; phase = Fresh } }

abbrev IsEnd : EntryKind → Type 0
IsEnd (ends_job j outcome) = Unit {0}
IsEnd kind = ⊥

end_is : (kind : EntryKind) → IsEnd kind → (j : ℕ) × (outcome : Outcome) × (kind ≡ ends_job j outcome)
end_is (ends_job j outcome) is = (j, outcome, refl)
end_is kind is = absurd is

module _ (before : Turn) (none : owns_share (begins before) ≡ false) where
  abbrev t : Turn
  t = begins before

  abbrev Spares : Effect → Type 0
  Spares m = (required_there t ≡ None) ⊎ IsEnd m.kind

  ends_spare : (outcome : Outcome) → Spares (ends t None outcome)
  ends_spare outcome = attempts_even Spares t (to_release (owns_share t && not (is_lost_ordered outcome))) None
      (record { kind = ends_job t.w.number outcome; taken = None; sent = farewells t (is_lost_ordered outcome); lines = []; calls = [] })
      (λ call e. absurd (no_release (owns_share t) (not (is_lost_ordered outcome)) none call e)) (inr tt)

  remote_spares : (text : Option (List ℕ)) → required_there t ≡ text → Spares (first_remote t text)
  remote_spares (Some text) is = ends_spare (Refused (refusals.Required text))
  remote_spares None is = inl is

  first_spares : side_of t.w ≡ Remote → (m : Effect) → by_partner t (partner t.w.what.peer t.w.phase) ≡ Some m → Spares m
  first_spares side m e = go (list_all (has_room t) (needs t Fresh)) e
    where
      go : (b : Bool) → (if b then Some (goes t Fresh) else None) ≡ Some m → Spares m
      go false g = absurd (cc)
      go true g = let same : goes t Fresh ≡ m = cc in subst Spares same (subst (λ d. Spares (first_drop t d)) (sym side) (remote_spares (required_there t) refl))

-- the first step of a remote drop that goes on
first_spared : (s : SetUp) (past : List Entry) (e : Entry) → OwnRun s past → (x : Work) (b : Steps s past e x) → b.by.w.part ≡ Drops → is_fresh b.by.w.phase ≡ true → side_of b.by.w ≡ Remote → required_there (turn_at s past e b.by) ≡ None
first_spared s past e run x b part fresh side =
    let turn = turn_at s past e b.by in
    let m = b.by.made in
    let phase : b.by.w.phase ≡ Fresh = fresh_is b.by.w.phase fresh in
    let same : turn ≡ begins turn = (λ i. record turn { w = record b.by.w { part = part i; phase = phase i } }) in
    let unasked = starts_unasked s past run b.by.w (step_runs s past e x b) (λ drops. fresh) in
    let unowned : owns_share turn ≡ false = owns_none b.by.w.number (holds past s.number) (unasked_unheld past s.number b.by.w.number unasked.unasked) in
    let does : by_partner (begins turn) (partner (begins turn).w.what.peer (begins turn).w.phase) ≡ Some m = subst (λ (y : Turn). by_partner y (partner y.w.what.peer y.w.phase) ≡ Some m) same b.by.does in
    elim (first_spares turn unowned side m does) [
      | inl spared ↦ spared
      | inr end ↦ (let is = end_is m.kind end in absurd (moved_on s past e x b is.0 is.1 is.2))
    ]

-- ---- and every later one

-- a remote drop that is past its first step: its target didn't require the content, by what it read
abbrev pub Spared : SetUp → List Entry → Work → Type 0
Spared s past w = w.part ≡ Drops → side_of w ≡ Remote → is_fresh w.phase ≡ false
    → required (settings_of (read_at past s.number w.number) s.number) (id_of s.repos (target_of s.number w)) w.what.key (s.paths w.number) ≡ None

module _ (reads_back : SentAreRead) (s : SetUp) where
  spared_kept : (past : List Entry) (e : Entry) → OwnPast s past → (w : Work) → Member w (works past s.number) → Spared s past w → Spared s (e ∷ past) w
  spared_kept past e h w m was part side later =
      ap (λ (z : Settings). required z (id_of s.repos (target_of s.number w)) w.what.key (s.paths w.number)) (stays_read past e s.number w.number ((at_targets reads_back s past h w m).1 part later))
      ∙ was part side later

  step_spared : (p : List Entry) (e : Entry) → OwnPast s (e ∷ p) → is_of s.number e ≡ true → ((x : Work) → Member x (works p s.number) → Spared s p x) → (x : Work) → Steps s p e x → Spared s (e ∷ p) x
  step_spared p e r is was x b part side later =
      let v = b.by.w in
      let runs = step_runs s p e x b in
      let before = earlier s p e r in
      let good = steps_good s p e x b (works_fit s p r.run.1 v runs) in
      let v_part : v.part ≡ Drops = was_drop v.part v.phase x.part x.phase good part later in
      let same : running_job x ≡ running_job v = ap running_job b.work_is ∙ kind_kept (rows_at p s.number) s.number v e e.kind in
      let what : x.what ≡ v.what = ap (λ (j : RunningJob). j.what) same in
      let number : x.number ≡ v.number = ap (λ (j : RunningJob). j.number) same in
      let v_side : side_of v ≡ Remote = subst (λ (q : Job). Jobs.drop_side q.kind q.peer ≡ Remote) what side in
      let read : settings_of (read_at (e ∷ p) s.number x.number) s.number ≡ settings_of (read_at p s.number v.number) s.number =
      ap (λ n. settings_of (read_at (e ∷ p) s.number n) s.number) number ∙ ap (λ q. settings_of q s.number) (step_read p e s.number v.number is b.step ((at_targets reads_back s p before v runs).0 v_part)).1 in
      (λ i. required (read i) (id_of s.repos (Jobs.or_own s.number (Jobs.drop_side (what i).kind (what i).peer) (what i).peer)) (what i).key (s.paths (number i)))
      ∙ go before runs v_part v_side (is_fresh v.phase) refl
    where
      go : OwnPast s p → Member b.by.w (works p s.number) → b.by.w.part ≡ Drops → side_of b.by.w ≡ Remote → (f : Bool) → is_fresh b.by.w.phase ≡ f
          → required (settings_of (read_at p s.number b.by.w.number) s.number) (id_of s.repos (target_of s.number b.by.w)) b.by.w.what.key (s.paths b.by.w.number) ≡ None
      go before runs part side true fresh = first_spared s p e before.run x b part fresh side
      go before runs part side false later = was b.by.w runs part side later

  -- **the target of a remote drop that is past its first step doesn't require the content**
  pub target_spared : (past : List Entry) → OwnPast s past → (w : Work) → Member w (works past s.number) → Spared s past w
  target_spared past h w m = invariant s (λ p x. OwnPast s p → Spared s p x) (λ p e is x n was h. spared_kept p e (earlier s p e h) x n (was (earlier s p e h)))
      (λ p e r is was x o h. own p e h is (λ y n. was y n (earlier s p e h)) x o) past h.run w m h
    where
      own : (p : List Entry) (e : Entry) → OwnPast s (e ∷ p) → is_of s.number e ≡ true → ((x : Work) → Member x (works p s.number) → Spared s p x) → (x : Work) → Origin s p e x → Spared s (e ∷ p) x
      own p e r is was x (inl b) =
          let fresh : x.phase ≡ Fresh = ap (λ (y : Work). y.phase) b.work_is in
          λ part side later. absurd (let now : is_fresh Fresh ≡ false = subst (λ q. is_fresh q ≡ false) fresh later in cc)
      own p e r is was x (inr (inl b)) = spared_kept p e (earlier s p e r) x b.ran (was x b.ran)
      own p e r is was x (inr (inr b)) = step_spared p e r is was x b
