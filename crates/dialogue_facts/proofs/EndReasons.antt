-- How a job comes to a phase in which a refusal stands: by what its entry takes, sends and is.
use Rattle.std.proofs.Common.{◌≡◌, ◌≢◌, ℕ, ◌+◌, ◌-◌, Bool, true, false, List, [], ◌∷◌, Option, Some, None, ◌⊎◌, inl, inr, refl, sym, ap, ◌∙◌, subst}
use Rattle.std.specs.Prelude.{if◌then◌else◌, ◌==◌}
use Rattle.std.proofs.lemmas.Bool.{eqb-true}
use Rattle.annex_base.specs.declared.kinds.Call.{Call}
use Rattle.annex_base.specs.declared.kinds.Call.TheVariants.{Unhold, PutFile}
use Rattle.annex_base.proofs.Conditions.{if_either}
use Rattle.drop_proof.specs.declared.rule.Side.{Side}
use Rattle.drop_proof.specs.declared.rule.Side.TheVariants.{Local, Remote}
use Rattle.run_data.specs.declared.entry.By.{By}
use Rattle.run_data.specs.declared.entry.Entry.{Entry}
use Rattle.run_data.specs.declared.entry.EntryKind.{EntryKind}
use Rattle.run_data.specs.declared.entry.EntryKind.TheVariants.{Gain, Share, Bar, Gone, Fault}
use Rattle.run_data.specs.declared.entry.FrameView.{FrameView}
use Rattle.run_data.specs.declared.entry.FrameText.{FrameText}
use Rattle.run_data.specs.declared.entry.FrameText.TheVariants.{Opening, Closing, Bytes, Line}
use Rattle.run_data.specs.declared.job.Outcome.{Outcome}
use Rattle.run_data.specs.declared.job.Outcome.TheVariants.{Got, Copied, Refused, TransferRefused}
use Rattle.run_data.specs.declared.job.DropRefusal.{DropRefusal}
use Rattle.run_data.specs.declared.job.DropRefusal.TheVariants as refusals
use Rattle.run_data.specs.declared.job.TransferRefusal.{TransferRefusal}
use Rattle.run_data.specs.declared.job.TransferRefusal.TheVariants as failures
use Rattle.run_data.specs.declared.job.Cause.TheVariants as causes
use Rattle.node_model.specs.Slots.{RunningJob}
use Rattle.p2p_wire.specs.declared.message.Message.{Message}
use Rattle.p2p_wire.specs.declared.message.Message.TheVariants.{AlreadyHave, CheckPresent, Data, Error, Failure, Get, GetTimestamp, LockContent, Put, PutFrom, Remove, RemoveBefore, Success, Valid, Version}
use Rattle.p2p_wire.specs.Messages.{order_of, message_of}
use Rattle.node_model.specs.Sessions.{line_in}
use Rattle.node_model.specs.Ends.{end_after}
use Rattle.node_model.specs.Jobs
use Rattle.node_model.specs.Jobs.{AsksLock, AsksLook, AsksTime, Denied, Drops, Ends, Fresh, GetsBytes, GetsData, GetsWord, Gets, Greets, Late, Next, Orders, Part, Phase, Puts, PutsAnswer, PutsBytes, PutsOffer, PutsWord, RowsAndEnds, Work, claims, closed_part, fault_of, fault_phase, first_look, after_gain, hears_frame, is_move, is_ordered, job_end, learns, listens, partner, quiet, running_job, says, says_some, sends, side_of, stores_fault, talks, talks_on, target_of, to_phase, after_frame, after_line, after_transfer, after_failed_release, word_taken, work_kind}
use Rattle.job_facts.proofs.TalkFacts.{Fits}
use Rattle.job_facts.proofs.PhaseFacts.{is_fresh, readies_place}
use Rattle.step_facts.proofs.JobKept.{claims_kept, learns_kept}

-- the entry takes this message, and sends nothing
pub record HearsOnly (e : Entry) (m : Message) : Type 0 where
  pub f : FrameView
  pub takes_it : e.taken ≡ Some f
  pub told : line_in f.body ≡ Some m
  pub sends_none : e.sent ≡ []

-- the first frame that it sends says this
pub record SaysFirst (e : Entry) (m : Message) : Type 0 where
  pub f : FrameView
  pub rest : List FrameView
  pub sent_is : e.sent ≡ f ∷ rest
  pub told : line_in f.body ≡ Some m

-- the connection on which the job stands is closed then
pub record ShutOn (rows : RowsAndEnds) (w : Work) (e : Entry) : Type 0 where
  pub peer : ℕ
  pub on : partner w.what.peer w.phase ≡ Some peer
  pub closed : (end_after (job_end w peer) (rows.ends (job_end w peer)) e).opened ≡ false

pub record CallFailed (kind : EntryKind) : Type 0 where
  pub call : Call
  pub owner : By
  pub kind_is : kind ≡ Fault call owner
  pub not_owed : call ≢ PutFile
  pub not_release : call ≢ Unhold

-- an entry that only talks
abbrev pub IsTalking : EntryKind → Type 0
IsTalking (Fault call owner) = ⊥
IsTalking (Bar job need key) = ⊥
IsTalking (Share hold end owner key) = ⊥
IsTalking (Gone source key) = ⊥
IsTalking (Gain source size key) = ⊥
IsTalking kind = Unit {0}

-- why a drop's refusal stands
abbrev pub DropReason : RowsAndEnds → ℕ → Work → Entry → EntryKind → DropRefusal → Type 0
DropReason rows r w e kind (refusals.Lost ordered) = (x : ShutOn rows w e) × (w.part ≡ Drops) × (target_of r w ≡ x.peer) × (ordered ≡ is_ordered w.phase)
DropReason rows r w e kind (refusals.OldProtocol n) = IsTalking kind × (((peer : ℕ) × (w.phase ≡ Greets peer) × HearsOnly e (Version n)) ⊎ ((w.phase ≡ Next) × (e.taken ≡ None) × (e.sent ≡ []) × (n ≡ w.version)))
DropReason rows r w e kind refusals.StoreFault = (w.part ≡ Drops) × CallFailed kind × (side_of w ≡ Remote → is_fresh w.phase ≡ false)
DropReason rows r w e kind refusal = ⊥

-- and a transfer's
abbrev pub TransferReason : RowsAndEnds → Work → Entry → EntryKind → TransferRefusal → Type 0
TransferReason rows w e kind failures.Busy = (peer : ℕ) × (text : List ℕ) × (w.phase ≡ PutsOffer peer) × HearsOnly e (Error text)
TransferReason rows w e kind failures.Closed = ShutOn rows w e × (w.part ≡ Puts)
TransferReason rows w e kind failures.Rejected = (peer : ℕ) × ((w.phase ≡ PutsOffer peer) ⊎ ((start : ℕ) × (w.phase ≡ PutsAnswer peer start))) × HearsOnly e Failure
TransferReason rows w e kind failures.StoreFault = (w.part ≢ Drops) × CallFailed kind
TransferReason rows w e kind refusal = ⊥

abbrev pub OutcomeReason : RowsAndEnds → ℕ → Work → Entry → EntryKind → Outcome → Type 0
OutcomeReason rows r w e kind (Refused refusal) = DropReason rows r w e kind refusal
OutcomeReason rows r w e kind (TransferRefused refusal) = TransferReason rows w e kind refusal
OutcomeReason rows r w e kind outcome = Unit {0}

-- a bar is put, or a share taken
abbrev pub Sets : EntryKind → Type 0
Sets (Bar job need key) = Unit {0}
Sets (Share hold end owner key) = Unit {0}
Sets kind = ⊥

-- to go on to the next peer: it is no copy, or the phase isn't one of a copy, or it is to begin, or it puts a bar or takes a share
abbrev pub NextReason : Work → EntryKind → Type 0
NextReason w kind = (w.part ≢ Puts) ⊎ ((Fits Puts w.phase → ⊥) ⊎ ((w.phase ≡ Fresh) ⊎ Sets kind))

pub record SendsFirst (e : Entry) (n : ℕ) : Type 0 where
  pub f : FrameView
  pub rest : List FrameView
  pub sent_is : e.sent ≡ f ∷ rest
  pub body_is : f.body ≡ Bytes n

-- bytes are to be sent: a piece went, or the peer told the place from which on they are wanted
abbrev pub SendsMore : Work → Entry → ℕ → ℕ → ℕ → ℕ → Type 0
SendsMore w e peer start at left = ((from : ℕ) × (before : ℕ) × (n : ℕ) × (w.phase ≡ PutsBytes peer start from before) × (at ≡ from + n) × (left ≡ before - n) × SendsFirst e n)
    ⊎ (SaysFirst e (Data left) × (Jobs.taken_message e.taken ≡ Some (PutFrom at)))

-- why the job stands there
abbrev pub Reason : RowsAndEnds → ℕ → Work → Entry → EntryKind → Phase → Type 0
Reason rows r w e kind Denied = (w.phase ≡ Orders) × HearsOnly e Failure
Reason rows r w e kind (Late time) = (w.phase ≡ AsksTime) × ((owner : By) × (kind ≡ Fault Unhold owner)) × (time ≡ e.time)
Reason rows r w e kind (Ends outcome) = OutcomeReason rows r w e kind outcome
Reason rows r w e kind Next = NextReason w kind
Reason rows r w e kind AsksTime = SaysFirst e GetTimestamp
Reason rows r w e kind Orders = (deadline : Option ℕ) × (key : List ℕ) × SaysFirst e (order_of deadline key)
Reason rows r w e kind (PutsBytes peer start at left) = SendsMore w e peer start at left
Reason rows r w e kind phase = Unit {0}

-- it stays, or it comes to another phase for that reason
abbrev pub Reasoned : RowsAndEnds → ℕ → Work → Entry → EntryKind → Work → Type 0
Reasoned rows r w e kind x = (x.phase ≡ w.phase) ⊎ Reason rows r w e kind x.phase

module _ (rows : RowsAndEnds) (r : ℕ) (e : Entry) (kind : EntryKind) where
  abbrev Stood : Work → Work → Type 0
  Stood w x = Reasoned rows r w e kind x

  transferred_stood : (w : Work) (o : Outcome) → OutcomeReason rows r w e kind o → Stood w (after_transfer w o)
  transferred_stood w o reason = if_either (Stood w) (is_move w.what.kind) (record w { part = Drops; phase = Fresh; fills = false }) (record w { phase = Ends o; fills = false }) (λ h. inr tt) (λ h. inr reason)

  closed_stood : (w : Work) (x : ShutOn rows w e) (part : Part) → w.part ≡ part → Stood w (closed_part r w x.peer part)
  closed_stood w x Gets is = inr (inl (λ d. let both : Gets ≡ Puts = sym is ∙ d in cc))
  closed_stood w x Puts is = inr (x, is)
  closed_stood w x Drops is = go (target_of r w == x.peer) refl
    where
      go : (b : Bool) → (target_of r w == x.peer) ≡ b → Stood w (if b then to_phase w (Ends (Refused (refusals.Lost (is_ordered w.phase)))) else Jobs.hears w x.peer (Jobs.Lacks causes.Closed))
      go true h = inr (x, is, eqb-true (target_of r w) x.peer h, refl)
      go false h = inr (inl (λ d. let both : Drops ≡ Puts = sym is ∙ d in cc))

  word_stood : (w : Work) (word : Option Message) (phase : Phase) → w.phase ≡ phase → Stood w (word_taken w word phase)
  word_stood w word (GetsWord peer start size) is = inr (inr (inl (λ fits. subst (Fits Puts) is fits)))
  word_stood w word phase is = inl refl

  gets_more_stood : (w : Work) (peer start size left : ℕ) → Stood w (to_phase w (Jobs.gets_more peer start size left))
  gets_more_stood w peer start size left = if_either (λ p. Stood w (to_phase w p)) (left == 0) (GetsWord peer start size) (GetsBytes peer start size left) (λ h. inr tt) (λ h. inr tt)

  puts_more_stood : (w : Work) (peer start at left : ℕ) → SendsMore w e peer start at left → Stood w (to_phase w (Jobs.puts_more peer start at left))
  puts_more_stood w peer start at left more = if_either (λ p. Stood w (to_phase w p)) (left == 0) (PutsWord peer start) (PutsBytes peer start at left) (λ h. inr tt) (λ h. inr more)

  put_from_stood : (w : Work) (peer n : ℕ) (taken : Option Message) → Jobs.taken_message e.taken ≡ taken → SaysFirst e (Data n) → Stood w (to_phase w (Jobs.put_from peer n taken))
  put_from_stood w peer n (Some (PutFrom start)) is h = puts_more_stood w peer start start n (inr (h, is))
  put_from_stood w peer n taken is h = inr tt

  answer_stood : (w : Work) (phase : Phase) → w.phase ≡ phase → Stood w (to_phase w (Jobs.puts_answer phase))
  answer_stood w (PutsWord peer start) is = inr tt
  answer_stood w phase is = inl (sym is)

  says_stood : (w : Work) (time peer : ℕ) (taken : Option Message) (m : Message) → Jobs.taken_message e.taken ≡ taken → SaysFirst e m → Stood w (says w time peer taken m)
  says_stood w time peer taken (Version n) is h = inr tt
  says_stood w time peer taken (Get n file key) is h = inr tt
  says_stood w time peer taken (Put file key) is h = inr tt
  says_stood w time peer taken (Data n) is h = put_from_stood w peer n taken is h
  says_stood w time peer taken Valid is h = answer_stood w w.phase refl
  says_stood w time peer taken (LockContent key) is h = inr tt
  says_stood w time peer taken (CheckPresent key) is h = inr tt
  says_stood w time peer taken GetTimestamp is h = inr h
  says_stood w time peer taken (Remove key) is h = inr (None, key, h)
  says_stood w time peer taken (RemoveBefore n key) is h = inr (Some n, key, h)
  says_stood w time peer taken Failure is h = word_stood w taken w.phase refl
  says_stood w time peer taken m is h = inl refl

  some_stood : (w : Work) (time peer : ℕ) (taken m : Option Message) → Jobs.taken_message e.taken ≡ taken → ((x : Message) → m ≡ Some x → SaysFirst e x) → Stood w (says_some w time peer taken m)
  some_stood w time peer taken None is h = inl refl
  some_stood w time peer taken (Some m) is h = says_stood w time peer taken m is (h m refl)

  bytes_stood : (w : Work) (n : ℕ) (phase : Phase) → w.phase ≡ phase → SendsFirst e n → Stood w (to_phase w (Jobs.puts_bytes n phase))
  bytes_stood w n (PutsBytes peer start at left) is first = puts_more_stood w peer start (at + n) (left - n) (inl (at, left, n, is, refl, refl, first))
  bytes_stood w n phase is first = inl (sym is)

  sends_stood : (w : Work) (time peer : ℕ) (taken : Option Message) → Jobs.taken_message e.taken ≡ taken → (f : FrameView) (rest : List FrameView) → e.sent ≡ f ∷ rest → (body : FrameText) → f.body ≡ body → Stood w (sends w time peer taken body)
  sends_stood w time peer taken same f rest sent Opening is = inr tt
  sends_stood w time peer taken same f rest sent Closing is = inl refl
  sends_stood w time peer taken same f rest sent (Bytes n) is = bytes_stood w n w.phase refl (record { f = f; rest = rest; sent_is = sent; body_is = is })
  sends_stood w time peer taken same f rest sent (Line text) is = some_stood w time peer taken (message_of text) same (λ x h. record { f = f; rest = rest; sent_is = sent; told = ap line_in is ∙ h })

  listens_stood : IsTalking kind → (w : Work) (phase : Phase) (m : Message) → w.phase ≡ phase → HearsOnly e m → Stood w (listens w phase m)
  listens_stood k w (AsksLock peer since) Success is h = inr (inr (inl (λ fits. subst (Fits Puts) is fits)))
  listens_stood k w (AsksLook peer) Success is h = inr (inr (inl (λ fits. subst (Fits Puts) is fits)))
  listens_stood k w (AsksLook peer) Failure is h = inr (inr (inl (λ fits. subst (Fits Puts) is fits)))
  listens_stood k w Orders Success is h = inr tt
  listens_stood k w Orders Failure is h = inr (is, h)
  listens_stood k w (Greets peer) (Version n) is h = inr (k, inl (peer, is, h))
  listens_stood k w (GetsData peer start) (Data n) is h = gets_more_stood w peer start start n
  listens_stood k w (PutsOffer peer) AlreadyHave is h = transferred_stood w (Copied None) tt
  listens_stood k w (PutsOffer peer) (Error text) is h = inr (peer, text, is, h)
  listens_stood k w (PutsOffer peer) Failure is h = inr (peer, inl is, h)
  listens_stood k w (PutsAnswer peer start) Success is h = transferred_stood w (Copied (Some start)) tt
  listens_stood k w (PutsAnswer peer start) Failure is h = inr (peer, inr (start, is), h)
  listens_stood k w phase m is h = inl refl

  gets_stood : (w : Work) (n : ℕ) (phase : Phase) → w.phase ≡ phase → Stood w (to_phase w (Jobs.gets_bytes n phase))
  gets_stood w n (GetsBytes peer start size left) is = gets_more_stood w peer start (size + n) (left - n)
  gets_stood w n phase is = inl (sym is)

  took_stood : IsTalking kind → (w : Work) (f : FrameView) → e.taken ≡ Some f → e.sent ≡ [] → (body : FrameText) → f.body ≡ body → Stood w (after_frame w body)
  took_stood k w f takes sends (Bytes n) is = gets_stood w n w.phase refl
  took_stood k w f takes sends (Line text) is = line (message_of text) (ap line_in is)
    where
      line : (m : Option Message) → line_in f.body ≡ m → Stood w (after_line w m)
      line None h = inl refl
      line (Some m) h = listens_stood k w w.phase m refl (record { f = f; takes_it = takes; told = h; sends_none = sends })
  took_stood k w f takes sends body is = inl refl

  first_stood : (w : Work) (part : Part) (here : Bool) (bar : Option ℕ) → w.phase ≡ Fresh → Stood w (first_look r w part here bar)
  first_stood w Gets true bar at = transferred_stood w (Got None None) tt
  first_stood w part here bar at = inr (inr (inr (inl at)))

  quiet_stood : IsTalking kind → (w : Work) (phase : Phase) → w.phase ≡ phase → e.taken ≡ None → e.sent ≡ [] → Stood w (quiet rows r w phase)
  quiet_stood k w Fresh is takes sends = first_stood w w.part (rows.present w.what.key) (rows.bar w.what.key) is
  quiet_stood k w Next is takes sends = inr (k, inr (is, takes, sends, refl))
  quiet_stood k w phase is takes sends = inl refl

  talks_stood : IsTalking kind → (w : Work) (fs : List FrameView) → e.sent ≡ fs → Stood w (talks rows r w e fs)
  talks_stood k w (f ∷ fs) sends = sends_stood w e.time f.peer (Jobs.taken_message e.taken) refl f fs sends f.body refl
  talks_stood k w [] sends = heard e.taken refl
    where
      heard : (o : Option FrameView) → e.taken ≡ o → Stood w (hears_frame rows r w o)
      heard None h = quiet_stood k w w.phase refl h sends
      heard (Some f) h = took_stood k w f h sends f.body refl

  on_stood : IsTalking kind → (w : Work) (p : Option ℕ) → partner w.what.peer w.phase ≡ p → Stood w (talks_on rows r w e p)
  on_stood k w None on = talks_stood k w e.sent refl
  on_stood k w (Some peer) on = if_either (Stood w) (end_after (job_end w peer) (rows.ends (job_end w peer)) e).opened (talks rows r w e e.sent) (closed_part r w peer w.part)
      (λ h. talks_stood k w e.sent refl) (λ h. closed_stood w (record { peer = peer; on = on; closed = h }) w.part refl)

  unreleased_stood : (w : Work) (owner : By) (phase : Phase) → w.phase ≡ phase → kind ≡ Fault Unhold owner → Stood w (after_failed_release w e.time phase)
  unreleased_stood w owner AsksTime is k = inr (is, (owner, k), refl)
  unreleased_stood w owner phase is k = inl refl

  ends_fault : (w : Work) (part : Part) → w.part ≡ part → CallFailed kind → (w.part ≡ Drops → side_of w ≡ Remote → is_fresh w.phase ≡ false) → OutcomeReason rows r w e kind (stores_fault part)
  ends_fault w Drops is k own = (is, k, own is)
  ends_fault w Gets is k own = ((λ d. let both : Gets ≡ Drops = sym is ∙ d in cc), k)
  ends_fault w Puts is k own = ((λ d. let both : Puts ≡ Drops = sym is ∙ d in cc), k)

  fault_stood : (w : Work) (part : Part) (side : Side) (phase : Phase) → w.part ≡ part → side_of w ≡ side → w.phase ≡ phase → CallFailed kind → Stood w (fault_phase r w part side phase)
  fault_stood w Drops Remote Fresh is at on k = inr (inl (λ d. let both : Drops ≡ Puts = sym is ∙ d in cc))
  fault_stood w Drops Local phase is at on k = inr (ends_fault w w.part refl k (λ d remote. let both : Local ≡ Remote = sym at ∙ remote in cc))
  fault_stood w Gets side phase is at on k = inr (ends_fault w w.part refl k (λ d remote. let both : Gets ≡ Drops = sym is ∙ d in cc))
  fault_stood w Puts side phase is at on k = inr (ends_fault w w.part refl k (λ d remote. let both : Puts ≡ Drops = sym is ∙ d in cc))
  fault_stood w part side phase is at on k = inr (ends_fault w w.part refl k (λ d remote. ap is_fresh on))

  call_stood : (w : Work) (call : Call) (owner : By) → kind ≡ Fault call owner → Stood w (fault_of r w e.time call)
  call_stood w PutFile owner k = inl refl
  call_stood w Unhold owner k = unreleased_stood w owner w.phase refl k
  call_stood w call owner k = fault_stood w w.part (side_of w) w.phase refl refl refl (record { call = call; owner = owner; kind_is = k; not_owed = λ is. cc; not_release = λ is. cc })

  gained_stood : (w : Work) (phase : Phase) → Stood w (after_gain w phase)
  gained_stood w (GetsWord peer start size) = transferred_stood w (Got (Some peer) (Some start)) tt
  gained_stood w phase = inl refl

-- ---- the work as it talks

-- the same job, at the same place
pub record Like (w y : Work) : Type 0 where
  pub job_is : running_job y ≡ running_job w
  pub part_is : y.part ≡ w.part
  pub phase_is : y.phase ≡ w.phase
  pub version_is : w.phase ≡ Next → y.version ≡ w.version

pub talker_like : (w : Work) (taken : Option FrameView) → Like w (learns (claims w w.part w.phase) w.phase taken)
talker_like w taken = record {
  job_is = learns_kept (claims w w.part w.phase) w.phase taken ∙ claims_kept w w.part w.phase;
  part_is = (readies_place w taken).0;
  phase_is = (readies_place w taken).1;
  version_is = λ is. ap (λ (p : Phase). (learns (claims w w.part p) p taken).version) is ∙ next w.part;
}
  where
    next : (part : Part) → (claims w part Next).version ≡ w.version
    next Gets = refl
    next Puts = refl
    next Drops = refl

module _ (rows : RowsAndEnds) (r : ℕ) (e : Entry) (kind : EntryKind) (w y : Work) (like : Like w y) where
  what_is : y.what ≡ w.what
  what_is = ap (λ (j : RunningJob). j.what) like.job_is

  pub shut_like : ShutOn rows y e → ShutOn rows w e
  shut_like x = record {
    peer = x.peer;
    on = sym (λ i. partner (what_is i).peer (like.phase_is i)) ∙ x.on;
    closed = subst (λ (n : ℕ). (end_after (record { peer = x.peer; slot = n; client = true }) (rows.ends (record { peer = x.peer; slot = n; client = true })) e).opened ≡ false) (ap (λ (j : RunningJob). j.slot) like.job_is) x.closed;
  }

  pub shut_same : (x : ShutOn rows y e) → (shut_like x).peer ≡ x.peer
  unfolding shut_like
  shut_same x = refl

  drop_like : (refusal : DropRefusal) → DropReason rows r y e kind refusal → DropReason rows r w e kind refusal
  unfolding shut_like
  drop_like (refusals.Lost ordered) x = (shut_like x.0, sym like.part_is ∙ x.1, ap (λ (q : RunningJob). Jobs.or_own r (Jobs.drop_side q.what.kind q.what.peer) q.what.peer) (sym like.job_is) ∙ x.2, x.3 ∙ ap is_ordered like.phase_is)
  drop_like (refusals.OldProtocol n) (k, inl x) = (k, inl (x.0, sym like.phase_is ∙ x.1, x.2))
  drop_like (refusals.OldProtocol n) (k, inr x) = let is : w.phase ≡ Next = sym like.phase_is ∙ x.0 in (k, inr (is, x.1, x.2, x.3 ∙ like.version_is is))
  drop_like refusals.StoreFault x = (sym like.part_is ∙ x.0, x.1, λ remote. ap is_fresh (sym like.phase_is) ∙ x.2 (ap (λ (q : RunningJob). Jobs.drop_side q.what.kind q.what.peer) like.job_is ∙ remote))
  drop_like refusal x = absurd x

  transfer_like : (refusal : TransferRefusal) → TransferReason rows y e kind refusal → TransferReason rows w e kind refusal
  transfer_like failures.Busy x = (x.0, x.1, sym like.phase_is ∙ x.2, x.3)
  transfer_like failures.Closed x = (shut_like x.0, sym like.part_is ∙ x.1)
  transfer_like failures.Rejected x = (x.0, elim (x.1) [ inl a ↦ inl (sym like.phase_is ∙ a) | inr a ↦ inr (a.0, sym like.phase_is ∙ a.1) ], x.2)
  transfer_like failures.StoreFault x = ((λ d. x.0 (like.part_is ∙ d)), x.1)
  transfer_like refusal x = absurd x

  outcome_like : (o : Outcome) → OutcomeReason rows r y e kind o → OutcomeReason rows r w e kind o
  outcome_like (Refused refusal) x = drop_like refusal x
  outcome_like (TransferRefused refusal) x = transfer_like refusal x
  outcome_like o x = tt

  reason_like : (phase : Phase) → Reason rows r y e kind phase → Reason rows r w e kind phase
  reason_like Denied x = (sym like.phase_is ∙ x.0, x.1)
  reason_like (Late time) x = (sym like.phase_is ∙ x.0, x.1, x.2)
  reason_like (Ends outcome) x = outcome_like outcome x
  reason_like Next (inl x) = inl (λ d. x (like.part_is ∙ d))
  reason_like Next (inr (inl x)) = inr (inl (λ f. x (subst (Fits Puts) (sym like.phase_is) f)))
  reason_like Next (inr (inr (inl x))) = inr (inr (inl (sym like.phase_is ∙ x)))
  reason_like Next (inr (inr (inr x))) = inr (inr (inr x))
  reason_like (PutsBytes peer start at left) (inl x) = inl (x.0, x.1, x.2, sym like.phase_is ∙ x.3, x.4, x.5, x.6)
  reason_like (PutsBytes peer start at left) (inr x) = inr x
  reason_like AsksTime x = x
  reason_like Orders x = x
  reason_like phase x = tt

  stood_like : (x : Work) → Reasoned rows r y e kind x → Reasoned rows r w e kind x
  stood_like x (inl same) = inl (same ∙ like.phase_is)
  stood_like x (inr reason) = inr (reason_like x.phase reason)

-- **where a refusal comes from**: a job's entry leaves its phase as it is, or brings it to a phase for its reason
pub kind_reason : (rows : RowsAndEnds) (r : ℕ) (w : Work) (e : Entry) (kind : EntryKind) → Reasoned rows r w e kind (work_kind rows r w e kind)
kind_reason rows r w e (Fault call owner) = call_stood rows r e (Fault call owner) w call owner refl
kind_reason rows r w e (Bar job need key) = inr (inr (inr (inr tt)))
kind_reason rows r w e (Share hold end owner key) = inr (inr (inr (inr tt)))
kind_reason rows r w e (Gone source key) = inr tt
kind_reason rows r w e (Gain source size key) = gained_stood rows r e (Gain source size key) w w.phase
kind_reason rows r w e kind =
    let y = learns (claims w w.part w.phase) w.phase e.taken in
    let like = talker_like w e.taken in
    stood_like rows r e kind w y like (talks_on rows r y e (partner w.what.peer w.phase))
    (on_stood rows r e kind tt y (partner w.what.peer w.phase) (λ i. partner (what_is rows r e kind w y like i).peer (like.phase_is i)))
