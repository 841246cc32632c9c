-- A step reads of the logs what its job's drop has read, and nothing for another part of a job.
use Rattle.node_model.specs.After.{AgreesAtDrops}
use Rattle.std.proofs.Common.{◌≡◌, ◌≢◌, ℕ, Bool, true, false, Option, Some, None, refl, sym, ap, ◌∙◌}
use Rattle.std.specs.Prelude.{if◌then◌else◌, find, ◌==◌}
use Rattle.std.specs.List.{list_all}
use Rattle.std.specs.Option.{option_or}
use Rattle.annex_base.specs.Lists.{Member}
use Rattle.annex_base.specs.Settings.{Settings}
use Rattle.annex_base.proofs.Lists.{find_member}
use Rattle.annex_base.specs.OptionSteps.{first_some}
use Rattle.drop_proof.specs.declared.rule.Side.{Side}
use Rattle.drop_proof.specs.declared.rule.Side.TheVariants.{Local, Remote}
use Rattle.node_model.specs.SetUp.{SetUp, slots}
use Rattle.node_model.specs.State.{State}
use Rattle.node_model.specs.Jobs.{Drops, Gets, Puts, Part, Phase, Fresh, Next, PutsBytes, PutsWord, Removed, Late, Work, job_end, partner, side_of}
use Rattle.node_model.specs.Look.{Look, waiting_frame}
use Rattle.node_model.specs.Knows.{standing_of}
use Rattle.node_model.specs.OwedStep.{owed_step}
use Rattle.node_model.specs.SessionStep.{session_step}
use Rattle.node_model.specs.JobStep.{Turn, turn_of, end_needs, end_with, ends}
use Rattle.node_model.specs.DropStep.{removal_outcome}
use Rattle.node_model.specs.Step.{step}
use Rattle.job_facts.proofs.TalkFacts.{Fits}
use Rattle.node_model.specs.Turns.{goes, goes_on, has_room, is_awaiting, needs, job_step, slot_step, with_partner, awaits, by_partner}
use Rattle.run_data.specs.declared.entry.FrameView.{FrameView}

-- the state where every job has read this
abbrev pub reading : State → Settings → State
reading st x = record st { read = λ j. x }

owed_is : (s : SetUp) (st : State) (k : Look) (x : Settings) → owed_step s st k ≡ owed_step s (reading st x) k
owed_is s st k x = refl

session_is : (s : SetUp) (st : State) (k : Look) (x : Settings) → session_step s st k ≡ session_step s (reading st x) k
session_is s st k x = refl

-- ---- a job reads what it has read

module _ (s : SetUp) (st : State) (k : Look) (w : Work) where
  abbrev t : Turn
  t = turn_of s st k w

  abbrev u : Turn
  u = turn_of s (reading st (st.read w.number)) k w

  removed_is : (side : Side) → ends t None (removal_outcome side t) ≡ ends u None (removal_outcome side u)
  unfolding standing_of
  removed_is Local = refl
  removed_is Remote = refl

  needs_removed : (side : Side) → end_needs t (removal_outcome side t) ≡ end_needs u (removal_outcome side u)
  unfolding standing_of
  needs_removed Local = refl
  needs_removed Remote = refl

  goes_is : (phase : Phase) → goes t phase ≡ goes u phase
  unfolding standing_of
  goes_is Fresh = refl
  goes_is Next = refl
  goes_is (PutsBytes peer start at left) = refl
  goes_is (PutsWord peer start) = refl
  goes_is Removed = removed_is (side_of w)
  goes_is phase = refl

  needs_is : (phase : Phase) → needs t phase ≡ needs u phase
  unfolding standing_of
  needs_is Fresh = refl
  needs_is Next = refl
  needs_is (PutsBytes peer start at left) = refl
  needs_is (PutsWord peer start) = refl
  needs_is Removed = needs_removed (side_of w)
  needs_is phase = refl

  on_is : goes_on t ≡ goes_on u
  on_is i = if list_all (has_room t) (needs_is w.phase i) then Some (goes_is w.phase i) else None

  with_is : (peer : ℕ) (b : Bool) → with_partner t peer b ≡ with_partner u peer b
  unfolding standing_of
  with_is peer false = refl
  with_is peer true = (λ i. if is_awaiting w.phase then awaits t peer (waiting_frame (end_with t peer) k (job_end w peer)) else on_is i)

  partner_is : (p : Option ℕ) → by_partner t p ≡ by_partner u p
  partner_is None = on_is
  partner_is (Some peer) = with_is peer (end_with t peer).opened

-- ---- a get or a put reads nothing

module _ (s : SetUp) (st : State) (k : Look) (x y : Settings) where
  abbrev at : Settings → Work → Turn
  at z w = turn_of s (reading st z) k w

  abbrev of_part : Part → Work → Work
  of_part part w = record w { part = part }

  other_goes : (w : Work) (part : Part) (phase : Phase) → part ≢ Drops → Fits part phase → goes (at x (of_part part w)) phase ≡ goes (at y (of_part part w)) phase
  other_goes w Drops phase apart fits = absurd (apart refl)
  other_goes w Gets Removed apart fits = absurd fits
  other_goes w Gets (Late time) apart fits = absurd fits
  other_goes w Gets phase apart fits = refl
  other_goes w Puts Removed apart fits = absurd fits
  other_goes w Puts (Late time) apart fits = absurd fits
  other_goes w Puts phase apart fits = refl

  other_needs : (w : Work) (part : Part) (phase : Phase) → part ≢ Drops → Fits part phase → needs (at x (of_part part w)) phase ≡ needs (at y (of_part part w)) phase
  other_needs w Drops phase apart fits = absurd (apart refl)
  other_needs w Gets Removed apart fits = absurd fits
  other_needs w Gets (Late time) apart fits = absurd fits
  other_needs w Gets phase apart fits = refl
  other_needs w Puts Removed apart fits = absurd fits
  other_needs w Puts (Late time) apart fits = absurd fits
  other_needs w Puts phase apart fits = refl

  other_awaits : (w : Work) (part : Part) → part ≢ Drops → (peer : ℕ) (f : Option FrameView) → awaits (at x (of_part part w)) peer f ≡ awaits (at y (of_part part w)) peer f
  other_awaits w Drops apart peer f = absurd (apart refl)
  other_awaits w Gets apart peer f = refl
  other_awaits w Puts apart peer f = refl

  other_on : (w : Work) (part : Part) → part ≢ Drops → Fits part w.phase → goes_on (at x (of_part part w)) ≡ goes_on (at y (of_part part w))
  other_on w part apart fits i = if list_all (has_room (at x (of_part part w))) (other_needs w part w.phase apart fits i) then Some (other_goes w part w.phase apart fits i) else None

  other_with : (w : Work) (part : Part) → part ≢ Drops → Fits part w.phase → (peer : ℕ) (b : Bool) → with_partner (at x (of_part part w)) peer b ≡ with_partner (at y (of_part part w)) peer b
  other_with w part apart fits peer false = refl
  other_with w part apart fits peer true = (λ i. if is_awaiting w.phase then other_awaits w part apart peer (waiting_frame (st.ends (job_end w peer)) k (job_end w peer)) i else other_on w part apart fits i)

  other_by : (w : Work) (part : Part) → part ≢ Drops → Fits part w.phase → (p : Option ℕ) → by_partner (at x (of_part part w)) p ≡ by_partner (at y (of_part part w)) p
  other_by w part apart fits None = other_on w part apart fits
  other_by w part apart fits (Some peer) = other_with w part apart fits peer (st.ends (job_end w peer)).opened

-- ---- states that agree

-- each running job stands where its part can
abbrev pub AllFit : State → Type 0
AllFit st = (w : Work) → Member w st.works → Fits w.part w.phase

module _ (s : SetUp) (st other : State) (k : Look) (fits : AllFit st) (agrees : AgreesAtDrops st other) where
  read_same : (x : Settings) → reading st x ≡ reading other x
  read_same x = ap (λ (z : State). reading z x) agrees.same

  by_part : (w : Work) → Member w st.works → (part : Part) → w.part ≡ part → slot_step s (reading other (st.read w.number)) k (Some w) ≡ slot_step s (reading other (other.read w.number)) k (Some w)
  by_part w m Drops is = ap (λ z. slot_step s (reading other z) k (Some w)) (agrees.reads w m is)
  by_part w m Gets is = other_by s other k (st.read w.number) (other.read w.number) w w.part (λ d. let no_drop : Gets ≡ Drops = sym is ∙ d in absurd (cc)) (fits w m) (partner w.what.peer w.phase)
  by_part w m Puts is = other_by s other k (st.read w.number) (other.read w.number) w w.part (λ d. let no_drop : Puts ≡ Drops = sym is ∙ d in absurd (cc)) (fits w m) (partner w.what.peer w.phase)

  slot_same : (w : Option Work) → ((v : Work) → w ≡ Some v → Member v st.works) → slot_step s st k w ≡ slot_step s other k w
  slot_same None m = refl
  slot_same (Some w) m =
      partner_is s st k w (partner w.what.peer w.phase) ∙ ap (λ (z : State). slot_step s z k (Some w)) (read_same (st.read w.number))
      ∙ by_part w (m w refl) w.part refl ∙ sym (partner_is s other k w (partner w.what.peer w.phase))

  -- **so they make the same step**
  pub step_same : step s st k ≡ step s other k
  step_same i = option_or ((owed_is s st k (other.read 0) ∙ ap (λ (z : State). owed_step s z k) (read_same (other.read 0)) ∙ sym (owed_is s other k (other.read 0))) i)
      (option_or ((session_is s st k (other.read 0) ∙ ap (λ (z : State). session_step s z k) (read_same (other.read 0)) ∙ sym (session_is s other k (other.read 0))) i) (jobs_same i))
    where
      works_same : st.works ≡ other.works
      works_same = ap (λ (z : State). z.works) agrees.same

      each : (slot : ℕ) → slot_step s st k (find (λ w. w.slot == slot) st.works) ≡ slot_step s other k (find (λ w. w.slot == slot) other.works)
      each slot = slot_same (find (λ w. w.slot == slot) st.works) (λ v is. (find_member (λ w. w.slot == slot) st.works v is).0) ∙ ap (λ ws. slot_step s other k (find (λ w. w.slot == slot) ws)) works_same

      jobs_same : job_step s st k ≡ job_step s other k
      jobs_same i = first_some (λ slot. each slot i) slots
