-- **Where a job stands refused, the entries tell why**: by induction over its repository's own part of a run.
use Rattle.std.proofs.Common.{◌≡◌, ◌≢◌, ℕ, Bool, true, false, List, [], ◌∷◌, Option, Some, ◌⊎◌, inl, inr, refl, sym, ap, ◌∙◌, subst}
use Rattle.std.specs.Prelude.{◌&&◌, nat_lt, codes}
use Rattle.annex_base.specs.Lists.{Member}
use Rattle.annex_base.specs.declared.kinds.Call.TheVariants.{Unhold}
use Rattle.annex_base.proofs.Conditions.{bytes_eq_tells}
use Rattle.step_facts.proofs.Below.{SentAreRead}
use Rattle.drop_proof.specs.declared.rule.Side.{Side}
use Rattle.drop_proof.specs.declared.rule.Side.TheVariants.{Remote}
use Rattle.run_data.specs.declared.entry.By.{By}
use Rattle.run_data.specs.declared.entry.Entry.{Entry}
use Rattle.run_data.specs.declared.entry.EntryKind.{EntryKind}
use Rattle.run_data.specs.declared.entry.EntryKind.TheVariants.{Fault, Talk, Gain, Share, Bar, Gone, Order, End as ends_job}
use Rattle.run_data.specs.declared.entry.FrameView.{FrameView}
use Rattle.run_data.specs.declared.job.Outcome.{Outcome}
use Rattle.run_data.specs.declared.job.Outcome.TheVariants.{Refused, TransferRefused}
use Rattle.run_data.specs.declared.job.DropRefusal.{DropRefusal}
use Rattle.run_data.specs.declared.job.DropRefusal.TheVariants as refusals
use Rattle.run_data.specs.declared.job.TransferRefusal.{TransferRefusal}
use Rattle.run_data.specs.declared.job.TransferRefusal.TheVariants as failures
use Rattle.node_model.specs.Slots.{RunningJob}
use Rattle.run_model.specs.Past.{is_of}
use Rattle.p2p_wire.specs.declared.message.Message.{Message}
use Rattle.p2p_wire.specs.declared.message.Message.TheVariants.{Error, Failure, Put, Valid, Version}
use Rattle.p2p_wire.specs.Messages.{order_of}
use Rattle.run_model.specs.Said.{Says}
use Rattle.run_model.specs.Logs.{before_step, in_drop, is_step}
use Rattle.run_model.specs.Drops.{option_is_none}
use Rattle.run_model.specs.Causes.{AnswersRequest, FailedCall, HearsMessage}
use Rattle.node_model.specs.SetUp.{SetUp}
use Rattle.run_model.specs.States.{state_of, rows_at, works}
use Rattle.node_model.specs.Jobs
use Rattle.node_model.specs.Jobs.{AsksTime, Denied, Drops, Ends, Greets, Late, Next, Orders, Phase, Puts, PutsOffer, Work, partner, running_job, work_kind}
use Rattle.node_model.specs.Look.{Effect}
use Rattle.node_model.specs.JobStep.{Turn, end_with}
use Rattle.step_facts.proofs.Knowing.{knows_enough, next_of}
use Rattle.node_model.specs.Found.{IsJobEntry}
use Rattle.node_model.specs.Turns.{by_partner, takes_frame}
use Rattle.run_model.specs.Run.{OwnPast, OwnRun}
use Rattle.step_facts.proofs.JobSteps.{Origin, Steps, invariant, turn_at}
use Rattle.job_facts.proofs.PhaseFacts.{is_fresh, only_answer, only_offer, only_orders}
use Rattle.job_facts.proofs.WorkFits.{step_kind, step_running, step_runs, works_fit}
use Rattle.job_facts.proofs.TalkFacts.{Fits}
use Rattle.job_facts.proofs.Aims.{aims}
use Rattle.dialogue_facts.proofs.CopiesInPlace.{copies_in_place}
use Rattle.job_facts.proofs.PhasesFit.{target_peer}
use Rattle.step_facts.proofs.ClientCounts.{LastIs, Request, request}
use Rattle.job_facts.proofs.HeardSteps.{took_as}
use Rattle.dialogue_facts.proofs.EndReasons.{CallFailed, DropReason, HearsOnly, IsTalking, OutcomeReason, Reason, TransferReason, kind_reason}
use Rattle.dialogue_facts.proofs.EndSteps.{IsTalkBy, Old, Silent, busy_text, greets_old, next_old}
use Rattle.cause_laws.proofs.TargetAsks.{order_remote, time_remote}
use Rattle.dialogue_facts.proofs.Carried.{Learns, kind_carries}
use Rattle.cause_laws.proofs.Refusals.{DropStands, OutcomeStands, Stands, TransferStands, answers_now, hears_now, hears_grows, side_in, side_is, stands_grows, target_in, target_is}
use Rattle.run_laws.proofs.AtTargets.{at_targets}
use Rattle.step_facts.proofs.BySteps.{earlier}
use Rattle.step_facts.proofs.Plain.{option_same}

-- ---- the version that its peer answered

-- an old version was told by the job's peer
abbrev pub VersionTold : SetUp → List Entry → RunningJob → ℕ → Type 0
VersionTold s past j version = nat_lt version 3 ≡ true → (peer : ℕ) × (j.what.peer ≡ Some peer) × HearsMessage past s.number j.number peer (Says (Version version))

told_grows : (s : SetUp) (past : List Entry) (e : Entry) (j : RunningJob) (version : ℕ) → VersionTold s past j version → VersionTold s (e ∷ past) j version
told_grows s past e j version x old = let y = x old in (y.0, y.1, hears_grows s.number e past j y.0 (Says (Version version)) y.2)

pub versions_told : SentAreRead → (s : SetUp) (past : List Entry) → OwnRun s past → (w : Work) → Member w (works past s.number) → VersionTold s past (running_job w) w.version
versions_told reads_back s past run w m = invariant s (λ p x. VersionTold s p (running_job x) x.version) (λ p e is x n was. told_grows s p e (running_job x) x.version was) own past run w m
  where
    own : (p : List Entry) (e : Entry) → OwnRun s (e ∷ p) → is_of s.number e ≡ true → ((x : Work) → Member x (works p s.number) → VersionTold s p (running_job x) x.version)
        → (x : Work) → Origin s p e x → VersionTold s (e ∷ p) (running_job x) x.version
    own p e r is was x (inl b) = subst (λ (y : Work). VersionTold s (e ∷ p) (running_job y) y.version) (sym b.work_is) (λ old. absurd (cc))
    own p e r is was x (inr (inl b)) = told_grows s p e (running_job x) x.version (was x b.ran)
    own p e r is was x (inr (inr b)) =
        let v = b.by.w in
        let y = work_kind (rows_at p s.number) s.number v e e.kind in
        let told : VersionTold s (e ∷ p) (running_job v) y.version = by_version (kind_carries (rows_at p s.number) s.number v e e.kind).0 in
        subst (λ (j : RunningJob). VersionTold s (e ∷ p) j x.version) (sym (step_running s p e x b)) (subst (λ (z : Work). VersionTold s (e ∷ p) (running_job v) z.version) (sym b.work_is) told)
      where
        by_version : {n : ℕ} → (n ≡ b.by.w.version) ⊎ Learns b.by.w e n → VersionTold s (e ∷ p) (running_job b.by.w) n
        by_version (inl same) = subst (VersionTold s (e ∷ p) (running_job b.by.w)) (sym same) (told_grows s p e (running_job b.by.w) b.by.w.version (was b.by.w (step_runs s p e x b)))
        by_version (inr l) = λ old.
            (l.peer, option_same b.by.w.what.peer l.peer l.is_peer, hears_now reads_back s p e b.by is l.f l.takes_it (Version _) l.told l.peer (ap (partner b.by.w.what.peer) l.phase_is))

-- ---- a step of the job itself

talk_by : (t : Turn) (m : Effect) (kind : EntryKind) → IsJobEntry t m kind → IsTalking kind → m.sent ≡ [] → ((j : ℕ) (outcome : Outcome) → kind ≢ ends_job j outcome) → IsTalkBy kind
talk_by t m (Talk (Some j)) k talks silent goes_on = tt
talk_by t m (Order j peer deadline need key) k talks silent goes_on = absurd (let both = sym k.sent_is ∙ silent in cc)
talk_by t m (ends_job j outcome) k talks silent goes_on = absurd (goes_on j outcome refl)
talk_by t m (Share hold end by key) k talks silent goes_on = absurd talks
talk_by t m (Bar j need key) k talks silent goes_on = absurd talks
talk_by t m (Gone by key) k talks silent goes_on = absurd talks
talk_by t m (Gain by size key) k talks silent goes_on = absurd talks
talk_by t m (Fault call by) k talks silent goes_on = absurd talks
talk_by t m kind k talks silent goes_on = absurd k

and_off : (a b c d : Bool) → d ≡ false → (a && b && (c && d)) ≡ false
and_off a b c true e = absurd (cc)
and_off false b c false e = refl
and_off true false c false e = refl
and_off true true false false e = refl
and_off true true true false e = refl

remote_target : (r : ℕ) (w : Work) (peer : ℕ) → Jobs.side_of w ≡ Remote → w.what.peer ≡ Some peer → Jobs.target_of r w ≡ peer
remote_target r w peer side at = ap (λ (d : Side). Jobs.or_own r d w.what.peer) side ∙ ap (Jobs.or_own r Remote) at

module _ (reads_back : SentAreRead) (s : SetUp) (p : List Entry) (e : Entry) (h : OwnPast s (e ∷ p)) (is : is_of s.number e ≡ true) (x : Work) (b : Steps s p e x) (was : Stands s.number p (running_job b.by.w) b.by.w.phase) where
  abbrev r : ℕ
  r = s.number

  abbrev v : Work
  v = b.by.w

  abbrev t : Turn
  t = turn_at s p e b.by

  abbrev before : OwnPast s p
  before = earlier s p e h

  runs : Member v (works p r)
  runs = step_runs s p e x b

  fits : Fits v.part v.phase
  fits = works_fit s p before.run v runs

  kind : IsJobEntry t b.by.made e.kind
  kind = step_kind s p e x b

  failed : CallFailed e.kind → FailedCall (e ∷ p) r v.number
  failed k = record {
    entry = e;
    before = p;
    occurs = inl (refl, refl);
    own = is;
    call = k.call;
    kind_is = k.kind_is ∙ ap (Fault k.call) (subst (IsJobEntry t b.by.made) k.kind_is kind).0;
    not_owed = k.not_owed;
  }

  -- the step that takes its partner's frame
  took : (f : FrameView) → e.taken ≡ Some f → (peer : ℕ) → partner v.what.peer v.phase ≡ Some peer → b.by.made ≡ takes_frame t peer f f.body
  took f takes peer on = took_as t b.by.made peer on (end_with t peer).opened (subst (λ (q : Option ℕ). by_partner t q ≡ Some b.by.made) on b.by.does) f (sym (ap (λ (y : Entry). y.taken) b.by.is) ∙ takes)

  silent : e.sent ≡ [] → b.by.made.sent ≡ []
  silent none = sym (ap (λ (y : Entry). y.sent) b.by.is) ∙ none

  talks : IsTalking e.kind → e.sent ≡ [] → IsTalkBy b.by.made.kind
  talks k none = subst IsTalkBy (ap (λ (y : Entry). y.kind) b.by.is) (talk_by t b.by.made e.kind kind k (silent none) b.goes_on)

  target_at : (peer : ℕ) → Jobs.target_of r v ≡ peer → target_in r (running_job v) ≡ peer
  target_at peer at = target_is r v ∙ at

  pub old_at : (n peer : ℕ) → v.phase ≡ Greets peer → HearsOnly e (Version n) → IsTalking e.kind → Old t n peer
  old_at n peer at hr k =
      let made = took hr.f hr.takes_it peer (ap (partner v.what.peer) at) in
      greets_old t hr.f peer peer n at hr.told (subst (λ (m : Effect). IsTalkBy m.kind) made (talks k hr.sends_none)) (subst (λ (m : Effect). Silent m) made (silent hr.sends_none))

  old_now : (n peer : ℕ) → v.phase ≡ Greets peer → HearsOnly e (Version n) → IsTalking e.kind → DropStands r (e ∷ p) (running_job v) (refusals.OldProtocol n)
  old_now n peer at hr k =
      let on : partner v.what.peer v.phase ≡ Some peer = ap (partner v.what.peer) at in
      let old = old_at n peer at hr k in
      (subst (λ q. HearsMessage (e ∷ p) r v.number q (Says (Version n))) (sym (target_at peer old.target_is)) (hears_now reads_back s p e b.by is hr.f hr.takes_it (Version n) hr.told peer on), old.old)

  pub old_on : v.phase ≡ Next → e.sent ≡ [] → IsTalking e.kind → (peer : ℕ) × Old t v.version peer × ((knows_enough s (state_of s p) v ≡ true) ⊎ (next_of s (state_of s p) v ≡ Some peer))
  old_on at none k = next_old t b.by.made at b.by.does (talks k none) (silent none)

  old_next : (n : ℕ) → v.phase ≡ Next → e.sent ≡ [] → n ≡ v.version → IsTalking e.kind → DropStands r (e ∷ p) (running_job v) (refusals.OldProtocol n)
  old_next n at none same k =
      let z = old_on at none k in
      let told = versions_told reads_back s p before.run v runs z.1.old in
      let target : target_in r (running_job v) ≡ told.0 = target_at told.0 (remote_target r v told.0 z.1.side told.1) in (
        subst (λ m. HearsMessage (e ∷ p) r v.number (target_in r (running_job v)) (Says (Version m))) (sym same)
            (subst (λ q. HearsMessage (e ∷ p) r v.number q (Says (Version v.version))) (sym target) (hears_grows r e p (running_job v) told.0 (Says (Version v.version)) told.2)),
        ap (λ m. nat_lt m 3) same ∙ z.1.old,
      )

  fault_now : v.part ≡ Drops → CallFailed e.kind → (Jobs.side_of v ≡ Remote → is_fresh v.phase ≡ false) → DropStands r (e ∷ p) (running_job v) refusals.StoreFault
  unfolding failed
  fault_now part k later = (
    failed k,
    k.not_release,
    λ remote.
        let read = (at_targets reads_back s p before v runs).1 part (later (sym (side_is v) ∙ remote)) in
        and_off (is_of r e) (is_step v.number e.kind) (in_drop p r v.number) (option_is_none (before_step p r v.number)) (ap option_is_none read.1),
  )

  drop_now : (refusal : DropRefusal) → DropReason (rows_at p r) r v e e.kind refusal → DropStands r (e ∷ p) (running_job v) refusal
  drop_now (refusals.Lost ordered) z = tt
  drop_now (refusals.OldProtocol n) (k, inl z) = old_now n z.0 z.1 z.2 k
  drop_now (refusals.OldProtocol n) (k, inr z) = old_next n z.0 z.2 z.3 k
  drop_now refusals.StoreFault z = fault_now z.0 z.1 z.2
  drop_now refusal z = absurd z

  busy_now : (peer : ℕ) (text : List ℕ) → v.phase ≡ PutsOffer peer → HearsOnly e (Error text) → TransferStands r (e ∷ p) (running_job v) failures.Busy
  busy_now peer text at hr =
      let on : partner v.what.peer v.phase ≡ Some peer = ap (partner v.what.peer) at in
      let part = only_offer v.part peer (subst (Fits v.part) at fits) in
      let busy = busy_text t hr.f peer peer text at part hr.told (subst (λ (m : Effect). Silent m) (took hr.f hr.takes_it peer on) (silent hr.sends_none)) in
      let same : text ≡ codes "busy" = elim (bytes_eq_tells text (codes "busy")) [ inl y ↦ y.1 | inr y ↦ absurd (let both : true ≡ false = sym busy ∙ y.0 in cc) ] in
      let a = answers_now reads_back s p e b.by is before hr.f hr.takes_it (Error text) (λ m. m ≡ Put [] v.what.key) hr.told busy peer on
      (λ last l. let y = subst (λ (q : Phase). LastIs v.what.key v.what.peer q peer last) at l refl in (y.0, Put [] v.what.key, refl, y.1)) in
      (peer, copies_in_place s p before.run v runs part peer on, subst (λ z. AnswersRequest (e ∷ p) r v.number peer (Says (Put [] v.what.key)) (Says (Error z))) same (subst (λ m. AnswersRequest (e ∷ p) r v.number peer (Says m) (Says (Error text))) a.1 a.2))

  rejected_now : (peer : ℕ) (P : Message → Type 0) → ((m : Message) → P m → (m ≡ Valid) ⊎ (m ≡ Put [] v.what.key)) → v.part ≡ Puts → partner v.what.peer v.phase ≡ Some peer → HearsOnly e Failure
      → ((last : Option Request) → LastIs v.what.key v.what.peer v.phase peer last → (time : ℕ) × (asked : Message) × P asked × (last ≡ Some (request time (Some asked))))
      → TransferStands r (e ∷ p) (running_job v) failures.Rejected
  rejected_now peer P which part on hr last =
      let a = answers_now reads_back s p e b.by is before hr.f hr.takes_it Failure P hr.told refl peer on last in
      (peer, copies_in_place s p before.run v runs part peer on, a.0, which a.0 a.1, a.2)

  transfer_now : (refusal : TransferRefusal) → TransferReason (rows_at p r) v e e.kind refusal → TransferStands r (e ∷ p) (running_job v) refusal
  transfer_now failures.Busy z = busy_now z.0 z.1 z.2 z.3
  transfer_now failures.Rejected (peer, inl at, hr) = rejected_now peer (λ m. m ≡ Put [] v.what.key) (λ m same. inr same) (only_offer v.part peer (subst (Fits v.part) at fits)) (ap (partner v.what.peer) at) hr
      (λ last l. let y = subst (λ (q : Phase). LastIs v.what.key v.what.peer q peer last) at l refl in (y.0, Put [] v.what.key, refl, y.1))
  transfer_now failures.Rejected (peer, inr at, hr) = rejected_now peer (λ m. m ≡ Valid) (λ m same. inl same) (only_answer v.part peer at.0 (subst (Fits v.part) at.1 fits)) (ap (partner v.what.peer) at.1) hr
      (λ last l. let y = subst (λ (q : Phase). LastIs v.what.key v.what.peer q peer last) at.1 l refl in (y.0, Valid, refl, y.1))
  transfer_now failures.StoreFault z = failed z.1
  transfer_now failures.Closed z = tt
  transfer_now refusal z = absurd z

  outcome_now : (o : Outcome) → OutcomeReason (rows_at p r) r v e e.kind o → OutcomeStands r (e ∷ p) (running_job v) o
  outcome_now (Refused refusal) z = drop_now refusal z
  outcome_now (TransferRefused refusal) z = transfer_now refusal z
  outcome_now o z = tt

  -- the order that is refused now
  abbrev pub RefusedNow : FrameView → ℕ → Message → Type 0
  RefusedNow f q m = (a : AnswersRequest (e ∷ p) r v.number q (Says m) (Says Failure)) × (a.hears.before ≡ p) × (a.hears.f ≡ f)

  pub refused_order : v.phase ≡ Orders → (hr : HearsOnly e Failure) → (d : Option ℕ) × RefusedNow hr.f (target_in r (running_job v)) (order_of d v.what.key)
  refused_order at hr =
      let remote : side_in (running_job v) ≡ Remote = subst (Stands r p (running_job v)) at was in
      let part = only_orders v.part (subst (Fits v.part) at fits) in
      let peer_is : v.what.peer ≡ Some (Jobs.target_of r v) = target_peer s v (aims s p before.run v runs) part (sym (side_is v) ∙ remote) in
      let a = answers_now reads_back s p e b.by is before hr.f hr.takes_it Failure (λ m. (d : Option ℕ) × (m ≡ order_of d v.what.key)) hr.told refl (Jobs.target_of r v) (ap (partner v.what.peer) at ∙ peer_is)
      (λ last l. let y = subst (λ (q : Phase). LastIs v.what.key v.what.peer q (Jobs.target_of r v) last) at l peer_is in (y.0, order_of y.1 v.what.key, (y.1, refl), y.2)) in
      let now : RefusedNow hr.f (Jobs.target_of r v) a.0 = (a.2, a.3, a.4) in
      (a.1.0, subst (λ q. RefusedNow hr.f q (order_of a.1.0 v.what.key)) (sym (target_is r v)) (subst (RefusedNow hr.f (Jobs.target_of r v)) a.1.1 now))

  pub orders_remote : v.phase ≡ Orders → side_in (running_job v) ≡ Remote
  orders_remote at = subst (Stands r p (running_job v)) at was

  denied_now : v.phase ≡ Orders → HearsOnly e Failure → Stands r (e ∷ p) (running_job v) Denied
  denied_now at hr = let x = refused_order at hr in (orders_remote at, x.0, x.1.0)

  late_now : (time : ℕ) (owner : By) → v.phase ≡ AsksTime → e.kind ≡ Fault Unhold owner → time ≡ e.time → Stands r (e ∷ p) (running_job v) (Late time)
  late_now time owner at k same = (
    subst (Stands r p (running_job v)) at was,
    record {
      entry = e;
      before = p;
      occurs = inl (refl, refl);
      own = is;
      kind_is = k ∙ ap (Fault Unhold) (subst (IsJobEntry t b.by.made) k kind).0;
      time_is = same;
    },
  )

  pub stands_now : (phase : Phase) → Reason (rows_at p r) r v e e.kind phase → Stands r (e ∷ p) (running_job v) phase
  stands_now AsksTime z = side_is v ∙ time_remote reads_back s p (h.run.0 is).0 e before.run (h.run.0 is).1 x b fits z
  stands_now Orders z = side_is v ∙ order_remote reads_back s p (h.run.0 is).0 e before.run (h.run.0 is).1 x b fits z.0 z.1 z.2
  stands_now Denied z = denied_now z.0 z.1
  stands_now (Late time) z = late_now time z.1.0 z.0 z.1.1 z.2
  stands_now (Ends outcome) z = outcome_now outcome z
  stands_now phase z = tt

-- **why it stands refused**
pub stands : SentAreRead → (s : SetUp) (past : List Entry) → OwnPast s past → (w : Work) → Member w (works past s.number) → Stands s.number past (running_job w) w.phase
stands reads_back s past h w m = invariant s (λ p x. OwnPast s p → Stands s.number p (running_job x) x.phase) (λ p e is x n was h. stands_grows s.number e p (running_job x) x.phase (was (earlier s p e h))) own past h.run w m h
  where
    own : (p : List Entry) (e : Entry) → OwnRun s (e ∷ p) → is_of s.number e ≡ true → ((x : Work) → Member x (works p s.number) → OwnPast s p → Stands s.number p (running_job x) x.phase)
        → (x : Work) → Origin s p e x → OwnPast s (e ∷ p) → Stands s.number (e ∷ p) (running_job x) x.phase
    own p e run is was x (inl b) h = subst (λ (y : Work). Stands s.number (e ∷ p) (running_job y) y.phase) (sym b.work_is) tt
    own p e run is was x (inr (inl b)) h = stands_grows s.number e p (running_job x) x.phase (was x b.ran (earlier s p e h))
    own p e run is was x (inr (inr b)) h =
        let v = b.by.w in
        let old : Stands s.number p (running_job v) v.phase = was v (step_runs s p e x b) (earlier s p e h) in
        let y = work_kind (rows_at p s.number) s.number v e e.kind in
        let new : Stands s.number (e ∷ p) (running_job v) y.phase = elim (kind_reason (rows_at p s.number) s.number v e e.kind) [
          | inl same ↦ subst (Stands s.number (e ∷ p) (running_job v)) (sym same) (stands_grows s.number e p (running_job v) v.phase old)
          | inr reason ↦ stands_now reads_back s p e h is x b old y.phase reason
        ] in
        subst (λ (j : RunningJob). Stands s.number (e ∷ p) j x.phase) (sym (step_running s p e x b)) (subst (λ (z : Work). Stands s.number (e ∷ p) (running_job v) z.phase) (sym b.work_is) new)
