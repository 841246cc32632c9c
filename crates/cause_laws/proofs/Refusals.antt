-- Where a job stands refused, the entries tell why: by an invariant of the running jobs.
use Rattle.std.proofs.Common.{◌≡◌, ◌≢◌, ℕ, true, false, List, [], ◌∷◌, Option, Some, None, ◌⊎◌, inl, inr, refl, sym, ap, ◌∙◌, subst}
use Rattle.std.specs.Prelude.{◌==◌, ◌&&◌, nat_lt, option_map, codes}
use Rattle.std.proofs.lemmas.Bool.{eqb-true}
use Rattle.annex_base.specs.declared.kinds.Call.TheVariants.{Unhold}
use Rattle.annex_base.proofs.Conditions.{and_first, eqb_refl}
use Rattle.step_facts.proofs.Below.{SentAreRead}
use Rattle.drop_proof.specs.declared.rule.Side.{Side}
use Rattle.drop_proof.specs.declared.rule.Side.TheVariants.{Remote}
use Rattle.run_data.specs.declared.entry.By.TheVariants.{Job as by_job}
use Rattle.run_data.specs.declared.entry.Entry.{Entry}
use Rattle.run_data.specs.declared.entry.EntryKind.TheVariants.{Fault}
use Rattle.run_data.specs.declared.entry.FrameView.{FrameView}
use Rattle.run_data.specs.declared.job.Outcome.{Outcome}
use Rattle.run_data.specs.declared.job.Outcome.TheVariants.{Refused, TransferRefused}
use Rattle.run_data.specs.declared.job.DropRefusal.{DropRefusal}
use Rattle.run_data.specs.declared.job.DropRefusal.TheVariants as refusals
use Rattle.run_data.specs.declared.job.TransferRefusal.{TransferRefusal}
use Rattle.run_data.specs.declared.job.TransferRefusal.TheVariants as failures
use Rattle.run_model.specs.Past.{Occurs, is_of}
use Rattle.node_model.specs.Slots.{RunningJob}
use Rattle.p2p_wire.specs.declared.message.Message.{Message}
use Rattle.p2p_wire.specs.declared.message.Message.TheVariants.{Error, Failure, Put, Valid, Version}
use Rattle.p2p_wire.specs.Messages.{order_of}
use Rattle.run_model.specs.Said.{Said, Says}
use Rattle.step_facts.proofs.Ways.{is_answer}
use Rattle.run_model.specs.Frames.{FlyingFrame, is_job, last_request, said_of, up_of, way_of}
use Rattle.run_model.specs.Drops.{is_first_step}
use Rattle.run_model.specs.Causes.{AnswersRequest, FailedCall, HearsMessage}
use Rattle.node_model.specs.SetUp.{SetUp}
use Rattle.node_model.specs.Sessions.{line_in}
use Rattle.node_model.specs.Jobs
use Rattle.node_model.specs.Jobs.{AsksTime, Denied, Ends, Late, Orders, Phase, Work, partner, running_job}
use Rattle.run_model.specs.Run.{OwnPast}
use Rattle.step_facts.proofs.JobSteps.{Stepped, stepped_job}
use Rattle.step_facts.proofs.ClientCounts.{LastIs, Request, request}
use Rattle.step_facts.proofs.ClientWays.{asked_by}
use Rattle.run_laws.proofs.ClientAwaits.{taken_last}
use Rattle.job_facts.proofs.Speaks.{hears}
use Rattle.run_laws.proofs.SaidDown.{said_is}
use Rattle.step_facts.proofs.Makers.{taken_of}

-- ---- the drop's side and target

abbrev pub side_in : RunningJob → Side
side_in j = Jobs.drop_side j.what.kind j.what.peer

abbrev pub target_in : ℕ → RunningJob → ℕ
target_in r j = Jobs.or_own r (side_in j) j.what.peer

pub side_is : (w : Work) → side_in (running_job w) ≡ Jobs.side_of w
side_is w = refl

pub target_is : (r : ℕ) (w : Work) → target_in r (running_job w) ≡ Jobs.target_of r w
target_is r w = refl

-- ---- an answer that a job takes now

request_is : (o : Option FlyingFrame) (time : ℕ) (m : Message) → option_map asked_by o ≡ Some (request time (Some m)) → (x : FlyingFrame) × (o ≡ Some x) × (said_of x ≡ Says m)
request_is None time m e = absurd (cc)
request_is (Some x) time m e =
    let is : Some (line_in x.frame.body) ≡ Some (Some m) = ap (λ (o : Option Request). option_map (λ (q : Request). q.what) o) e in
    let line : line_in x.frame.body ≡ Some m = cc in
    (x, refl, said_is x.frame.body m line)

pub stepped_own : (s : SetUp) (past : List Entry) (e : Entry) (x : Stepped s past e) → is_of s.number e ≡ true → is_job s.number x.w.number e ≡ true
stepped_own s past e x is = rw (is, stepped_job s past e x) (eqb_refl x.w.number)

module _ (reads_back : SentAreRead) (s : SetUp) (past : List Entry) (e : Entry) (x : Stepped s past e) (is : is_of s.number e ≡ true) where
  -- the peer of the frame that it takes
  pub took_peer : (f : FrameView) → e.taken ≡ Some f → (peer : ℕ) → partner x.w.what.peer x.w.phase ≡ Some peer → f.peer ≡ peer
  took_peer f took peer on =
      let t = taken_of s past e x f took in
      let same : Some peer ≡ Some t.peer = sym on ∙ t.on in
      let at : peer ≡ t.peer = cc in
      eqb-true f.peer t.peer (and_first (f.peer == t.peer) (f.slot == t.w.slot) (and_first ((f.peer == t.peer) && (f.slot == t.w.slot)) _ t.of_end)) ∙ sym at

  pub hears_now : (f : FrameView) → e.taken ≡ Some f → (m : Message) → line_in f.body ≡ Some m → (peer : ℕ) → partner x.w.what.peer x.w.phase ≡ Some peer → HearsMessage (e ∷ past) s.number x.w.number peer (Says m)
  hears_now f took m told peer on = record {
    entry = e;
    before = past;
    occurs = inl (refl, refl);
    own = stepped_own s past e x is;
    f = f;
    takes_it = took;
    peer_is = took_peer f took peer on;
    down = (hears s past e x f took).1;
    says = said_is f.body m told;
  }

  pub answers_now : OwnPast s past → (f : FrameView) → e.taken ≡ Some f → (m : Message) (P : Message → Type 0) → line_in f.body ≡ Some m → is_answer (Says m) ≡ true → (peer : ℕ) → partner x.w.what.peer x.w.phase ≡ Some peer
      → ((last : Option Request) → LastIs x.w.what.key x.w.what.peer x.w.phase peer last → (time : ℕ) × (asked : Message) × P asked × (last ≡ Some (request time (Some asked))))
      → (asked : Message) × P asked × (a : AnswersRequest (e ∷ past) s.number x.w.number peer (Says asked) (Says m)) × (a.hears.before ≡ past) × (a.hears.f ≡ f)
  unfolding hears_now
  answers_now h f took m P told answer peer on last =
      let t = taken_of s past e x f took in
      let same : Some peer ≡ Some t.peer = sym on ∙ t.on in
      let at : peer ≡ t.peer = cc in
      let all = option_map asked_by (last_request past (up_of (way_of s.number f))) in
      let down : f.up ≡ false = (hears s past e x f took).1 in
      let now : LastIs t.w.what.key t.w.what.peer t.w.phase t.peer all =
      taken_last reads_back s past h e f down (ap is_answer (said_is f.body m told) ∙ answer) t all refl in
      let mine : LastIs x.w.what.key x.w.what.peer x.w.phase peer all =
      subst (λ n. LastIs t.w.what.key t.w.what.peer t.w.phase n all) (sym at) now in
      let was = last all mine in
      let r = request_is (last_request past (up_of (way_of s.number f))) was.0 was.1 was.3 in
      (was.1, was.2, record { hears = hears_now f took m told peer on; request = r.0; last = r.1; asked_is = r.2 }, refl, refl)

-- ---- what stands

-- why a drop is to end refused, as its repository's entries tell
abbrev pub DropStands : ℕ → List Entry → RunningJob → DropRefusal → Type 0
DropStands r past j (refusals.OldProtocol n) = HearsMessage past r j.number (target_in r j) (Says (Version n)) × (nat_lt n 3 ≡ true)
DropStands r past j refusals.StoreFault = (x : FailedCall past r j.number) × (x.call ≢ Unhold) × (side_in j ≡ Remote → is_first_step x.before r j.number x.entry ≡ false)
DropStands r past j (refusals.Lost ordered) = Unit {0}
DropStands r past j refusal = ⊥

abbrev pub TransferStands : ℕ → List Entry → RunningJob → TransferRefusal → Type 0
TransferStands r past j failures.Busy = (peer : ℕ) × (j.what.peer ≡ Some peer) × AnswersRequest past r j.number peer (Says (Put [] j.what.key)) (Says (Error (codes "busy")))
TransferStands r past j failures.Rejected = (peer : ℕ) × (j.what.peer ≡ Some peer) × (asked : Message) × ((asked ≡ Valid) ⊎ (asked ≡ Put [] j.what.key)) × AnswersRequest past r j.number peer (Says asked) (Says Failure)
TransferStands r past j failures.StoreFault = FailedCall past r j.number
TransferStands r past j failures.Closed = Unit {0}
TransferStands r past j refusal = ⊥

abbrev pub OutcomeStands : ℕ → List Entry → RunningJob → Outcome → Type 0
OutcomeStands r past j (Refused refusal) = DropStands r past j refusal
OutcomeStands r past j (TransferRefused refusal) = TransferStands r past j refusal
OutcomeStands r past j outcome = Unit {0}

-- the release of its own share failed then
pub record ReleaseFailed (past : List Entry) (r j time : ℕ) : Type 0 where
  pub entry : Entry
  pub before : List Entry
  pub occurs : Occurs past entry before
  pub own : is_of r entry ≡ true
  pub kind_is : entry.kind ≡ Fault Unhold (by_job j)
  pub time_is : time ≡ entry.time

abbrev pub Stands : ℕ → List Entry → RunningJob → Phase → Type 0
Stands r past j AsksTime = side_in j ≡ Remote
Stands r past j Orders = side_in j ≡ Remote
Stands r past j Denied = (side_in j ≡ Remote) × (deadline : Option ℕ) × AnswersRequest past r j.number (target_in r j) (Says (order_of deadline j.what.key)) (Says Failure)
Stands r past j (Late time) = (side_in j ≡ Remote) × ReleaseFailed past r j.number time
Stands r past j (Ends outcome) = OutcomeStands r past j outcome
Stands r past j phase = Unit {0}

-- ---- more entries change nothing

module _ (r : ℕ) (e : Entry) (past : List Entry) (j : RunningJob) where
  pub hears_grows : (peer : ℕ) (m : Said) → HearsMessage past r j.number peer m → HearsMessage (e ∷ past) r j.number peer m
  hears_grows peer m x = record { entry = x.entry; before = x.before; occurs = inr x.occurs; own = x.own; f = x.f; takes_it = x.takes_it; peer_is = x.peer_is; down = x.down; says = x.says }

  pub answers_grow : (peer : ℕ) (asked m : Said) → AnswersRequest past r j.number peer asked m → AnswersRequest (e ∷ past) r j.number peer asked m
  unfolding hears_grows
  answers_grow peer asked m x = record { hears = hears_grows peer m x.hears; request = x.request; last = x.last; asked_is = x.asked_is }

  failed_grows : FailedCall past r j.number → FailedCall (e ∷ past) r j.number
  failed_grows x = record { entry = x.entry; before = x.before; occurs = inr x.occurs; own = x.own; call = x.call; kind_is = x.kind_is; not_owed = x.not_owed }

  drop_grows : (refusal : DropRefusal) → DropStands r past j refusal → DropStands r (e ∷ past) j refusal
  unfolding failed_grows
  drop_grows (refusals.OldProtocol n) x = (hears_grows (target_in r j) (Says (Version n)) x.0, x.1)
  drop_grows refusals.StoreFault x = (failed_grows x.0, x.1, x.2)
  drop_grows (refusals.Lost ordered) x = tt
  drop_grows refusal x = absurd x

  transfer_grows : (refusal : TransferRefusal) → TransferStands r past j refusal → TransferStands r (e ∷ past) j refusal
  transfer_grows failures.Busy x = (x.0, x.1, answers_grow x.0 (Says (Put [] j.what.key)) (Says (Error (codes "busy"))) x.2)
  transfer_grows failures.Rejected x = (x.0, x.1, x.2, x.3, answers_grow x.0 (Says x.2) (Says Failure) x.4)
  transfer_grows failures.StoreFault x = failed_grows x
  transfer_grows failures.Closed x = tt
  transfer_grows refusal x = absurd x

  outcome_grows : (o : Outcome) → OutcomeStands r past j o → OutcomeStands r (e ∷ past) j o
  outcome_grows (Refused refusal) x = drop_grows refusal x
  outcome_grows (TransferRefused refusal) x = transfer_grows refusal x
  outcome_grows o x = tt

  pub stands_grows : (phase : Phase) → Stands r past j phase → Stands r (e ∷ past) j phase
  stands_grows AsksTime x = x
  stands_grows Orders x = x
  stands_grows Denied x = (x.0, x.1, answers_grow (target_in r j) (Says (order_of x.1 j.what.key)) (Says Failure) x.2)
  stands_grows (Late time) x = (x.0, let f = x.1 in record { entry = f.entry; before = f.before; occurs = inr f.occurs; own = f.own; kind_is = f.kind_is; time_is = f.time_is })
  stands_grows (Ends outcome) x = outcome_grows outcome x
  stands_grows phase x = tt
