-- The word beside a refused order is that of the entry whose answer the job took.
use Rattle.std.proofs.Common.{◌≡◌, ℕ, true, false, List, ◌∷◌, Option, Some, inl, inr, refl, sym, ap, ◌∙◌, subst}
use Rattle.std.specs.Prelude.{slice_get}
use Rattle.annex_base.specs.Lists.{Member}
use Rattle.step_facts.proofs.Below.{SentAreRead}
use Rattle.drop_proof.specs.declared.rule.Side.TheVariants.{Remote}
use Rattle.run_data.specs.declared.entry.Entry.{Entry}
use Rattle.node_model.specs.Slots.{RunningJob}
use Rattle.run_model.specs.Past.{is_of}
use Rattle.p2p_wire.specs.declared.message.Message.TheVariants.{Failure}
use Rattle.p2p_wire.specs.Messages.{order_of}
use Rattle.run_model.specs.Said.{Says}
use Rattle.run_model.specs.Frames.{frames_sent, taken_count, way_of}
use Rattle.run_model.specs.Causes.{AnswersRequest}
use Rattle.node_model.specs.SetUp.{SetUp}
use Rattle.run_model.specs.Words.{awaits_word, word_of, word_told}
use Rattle.node_model.specs.Jobs.{Denied, Phase, Work, partner, side_of, running_job, work_kind}
use Rattle.run_model.specs.States.{rows_at, works}
use Rattle.run_model.specs.Run.{OwnPast, OwnRun}
use Rattle.step_facts.proofs.JobSteps.{Origin, Steps, invariant, stepped_job}
use Rattle.step_facts.proofs.JobKept.{kind_kept}
use Rattle.job_facts.proofs.WorkFits.{step_runs, works_fit}
use Rattle.job_facts.proofs.TalkFacts.{Fits}
use Rattle.job_facts.proofs.Aims.{aims}
use Rattle.job_facts.proofs.PhasesFit.{target_peer}
use Rattle.dialogue_facts.proofs.EndReasons.{Reason, kind_reason}
use Rattle.cause_laws.proofs.Refusals.{Stands, side_is, target_in, target_is, took_peer}
use Rattle.cause_laws.proofs.Standing.{orders_remote, refused_order, stands}
use Rattle.step_facts.proofs.BySteps.{earlier}
use Rattle.dialogue_facts.proofs.WordsTold.{word_now, word_still}
use Rattle.job_facts.proofs.PhaseFacts.{only_orders}
use Rattle.step_facts.proofs.Plain.{option_at}

-- the order was refused, and its word is the sender's
pub record DeniedBy (s : SetUp) (past : List Entry) (j : RunningJob) : Type 0 where
  pub deadline : Option ℕ
  pub refused : AnswersRequest past s.number j.number (target_in s.number j) (Says (order_of deadline j.what.key)) (Says Failure)
  pub word : word_told past s.number j.number (target_in s.number j) ≡ word_of (slice_get (frames_sent refused.hears.before (way_of s.number refused.hears.f)) (taken_count refused.hears.before (way_of s.number refused.hears.f)))

abbrev pub DeniedAt : SetUp → List Entry → RunningJob → Phase → Type 0
DeniedAt s past j Denied = DeniedBy s past j
DeniedAt s past j phase = Unit {0}

-- more entries
grown : (s : SetUp) (past : List Entry) (e : Entry) (j : RunningJob) (x : DeniedBy s past j) → word_told (e ∷ past) s.number j.number (target_in s.number j) ≡ word_told past s.number j.number (target_in s.number j) → DeniedBy s (e ∷ past) j
grown s past e j x same = record {
  deadline = x.deadline;
  refused = record {
    hears = record { entry = x.refused.hears.entry; before = x.refused.hears.before; occurs = inr x.refused.hears.occurs; own = x.refused.hears.own; f = x.refused.hears.f; takes_it = x.refused.hears.takes_it; peer_is = x.refused.hears.peer_is; down = x.refused.hears.down; says = x.refused.hears.says };
    request = x.refused.request;
    last = x.refused.last;
    asked_is = x.refused.asked_is;
  };
  word = same ∙ x.word;
}

denied_other : (s : SetUp) (past : List Entry) (e : Entry) (j : RunningJob) (phase : Phase) → is_of s.number e ≡ false → DeniedAt s past j phase → DeniedAt s (e ∷ past) j phase
denied_other s past e j Denied is x = grown s past e j x (rw is refl)
denied_other s past e j phase is x = tt

denied_still : (s : SetUp) (past : List Entry) (e : Entry) (w : Work) (phase : Phase) → OwnRun s past → Member w (works past s.number) → w.phase ≡ phase → DeniedAt s past (running_job w) phase → DeniedAt s (e ∷ past) (running_job w) phase
denied_still s past e w Denied run m at x = grown s past e (running_job w) x (word_still s past e w (target_in s.number (running_job w)) run m (ap (awaits_word (target_in s.number (running_job w)) w.what.peer) at))
denied_still s past e w phase run m at x = tt

module _ (reads_back : SentAreRead) (s : SetUp) (p : List Entry) (e : Entry) (h : OwnPast s (e ∷ p)) (is : is_of s.number e ≡ true) (x : Work) (b : Steps s p e x) where
  abbrev v : Work
  v = b.by.w

  before : OwnPast s p
  before = earlier s p e h

  runs : Member v (works p s.number)
  runs = step_runs s p e x b

  st : Stands s.number p (running_job v) v.phase
  st = stands reads_back s p before v runs

  denied_by : (phase : Phase) → Reason (rows_at p s.number) s.number v e e.kind phase → DeniedAt s (e ∷ p) (running_job v) phase
  denied_by Denied z =
      let hr = z.1 in
      let a = refused_order reads_back s p e h is x b st z.0 hr in
      let t = target_in s.number (running_job v) in
      let remote : side_of v ≡ Remote = sym (side_is v) ∙ orders_remote reads_back s p e h is x b st z.0 in
      let part = only_orders v.part (subst (Fits v.part) z.0 (works_fit s p before.run v runs)) in
      let peer : v.what.peer ≡ Some t = target_peer s v (aims s p before.run v runs) part remote ∙ ap (λ n. Some n) (sym (target_is s.number v)) in
      let waits : awaits_word t v.what.peer v.phase ≡ true = ap (awaits_word t v.what.peer) z.0 ∙ option_at v.what.peer t peer in
      let told = word_now s p e v t hr.f before.run runs is (stepped_job s p e b.by) waits hr.takes_it (took_peer reads_back s p e b.by is hr.f hr.takes_it t (ap (partner v.what.peer) z.0 ∙ peer)) in
      record {
        deadline = a.0;
        refused = a.1.0;
        word = told ∙ sym (λ i. word_of (slice_get (frames_sent (a.1.1 i) (way_of s.number (a.1.2 i))) (taken_count (a.1.1 i) (way_of s.number (a.1.2 i)))));
      }
  denied_by phase z = tt

pub denied_words : SentAreRead → (s : SetUp) (past : List Entry) → OwnPast s past → (w : Work) → Member w (works past s.number) → DeniedAt s past (running_job w) w.phase
denied_words reads_back s past h w m = invariant s (λ p x. OwnPast s p → DeniedAt s p (running_job x) x.phase) (λ p e is x n was h. denied_other s p e (running_job x) x.phase is (was (earlier s p e h))) own past h.run w m h
  where
    own : (p : List Entry) (e : Entry) → OwnRun s (e ∷ p) → is_of s.number e ≡ true → ((x : Work) → Member x (works p s.number) → OwnPast s p → DeniedAt s p (running_job x) x.phase)
        → (x : Work) → Origin s p e x → OwnPast s (e ∷ p) → DeniedAt s (e ∷ p) (running_job x) x.phase
    own p e run is was x (inl b) h = subst (λ (y : Work). DeniedAt s (e ∷ p) (running_job y) y.phase) (sym b.work_is) tt
    own p e run is was x (inr (inl b)) h = denied_still s p e x x.phase run.1 b.ran refl (was x b.ran (earlier s p e h))
    own p e run is was x (inr (inr b)) h =
        let v = b.by.w in
        let n = step_runs s p e x b in
        let y = work_kind (rows_at p s.number) s.number v e e.kind in
        let new : DeniedAt s (e ∷ p) (running_job v) y.phase = elim (kind_reason (rows_at p s.number) s.number v e e.kind) [
          | inl same ↦ subst (DeniedAt s (e ∷ p) (running_job v)) (sym same) (denied_still s p e v v.phase run.1 n refl (was v n (earlier s p e h)))
          | inr reason ↦ denied_by reads_back s p e h is x b y.phase reason
        ] in
        subst (λ (j : RunningJob). DeniedAt s (e ∷ p) j x.phase) (sym (ap running_job b.work_is ∙ kind_kept (rows_at p s.number) s.number v e e.kind)) (subst (λ (z : Work). DeniedAt s (e ∷ p) (running_job v) z.phase) (sym b.work_is) new)
