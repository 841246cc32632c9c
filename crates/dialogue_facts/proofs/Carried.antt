-- What a job carries from entry to entry: the version that its peer answered, and the causes of a get.
use Rattle.std.proofs.Common.{◌≡◌, ℕ, Bool, true, false, List, [], ◌∷◌, ◌++◌, Option, Some, None, ◌⊎◌, inl, inr, refl, sym, ap, ◌∙◌, subst}
use Rattle.std.specs.Prelude.{if◌then◌else◌, ◌==◌}
use Rattle.annex_base.specs.declared.kinds.Call.{Call}
use Rattle.annex_base.specs.declared.kinds.Call.TheVariants.{Unhold, PutFile}
use Rattle.annex_base.proofs.Conditions.{if_either}
use Rattle.drop_proof.specs.declared.rule.Side.{Side}
use Rattle.drop_proof.specs.declared.rule.Side.TheVariants.{Remote}
use Rattle.run_data.specs.declared.entry.Entry.{Entry}
use Rattle.run_data.specs.declared.entry.EntryKind.{EntryKind}
use Rattle.run_data.specs.declared.entry.EntryKind.TheVariants.{Gain, Share, Bar, Gone, Fault}
use Rattle.run_data.specs.declared.entry.FrameView.{FrameView}
use Rattle.run_data.specs.declared.entry.FrameText.{FrameText}
use Rattle.run_data.specs.declared.entry.FrameText.TheVariants.{Opening, Closing, Bytes, Line}
use Rattle.run_data.specs.declared.job.Outcome.{Outcome}
use Rattle.run_data.specs.declared.job.Outcome.TheVariants.{Got, Copied, Refused}
use Rattle.run_data.specs.declared.job.DropRefusal.TheVariants as refusals
use Rattle.run_data.specs.declared.job.Cause.TheVariants as causes
use Rattle.run_data.specs.declared.job.SourceCause.{SourceCause}
use Rattle.run_data.specs.declared.job.SourceCause.TheVariants as sources
use Rattle.run_data.specs.declared.job.SourceFailure.{SourceFailure}
use Rattle.node_model.specs.Rows.{option_is}
use Rattle.p2p_wire.specs.declared.message.Message.{Message}
use Rattle.p2p_wire.specs.declared.message.Message.TheVariants.{AlreadyHave, Data, Error, Failure, Success, Valid, Version}
use Rattle.p2p_wire.specs.Messages.{message_of}
use Rattle.node_model.specs.Sessions.{line_in}
use Rattle.node_model.specs.Ends.{end_after}
use Rattle.node_model.specs.Jobs
use Rattle.node_model.specs.Jobs.{AsksLock, AsksLook, Drops, Ends, Fresh, GetsData, GetsWord, Gets, Greets, Next, Orders, Part, Phase, Puts, PutsAnswer, PutsOffer, RowsAndEnds, Work, claims, closed_part, fault_of, fault_phase, first_look, after_gain, hears_frame, is_move, job_end, learns, listens, partner, quiet, says, says_some, sends, side_of, source_cause, talks, talks_on, taken_message, target_of, to_phase, after_frame, after_line, after_transfer, after_failed_release, word_taken, work_kind}
use Rattle.dialogue_facts.proofs.EndReasons.{Like, SaysFirst, ShutOn, shut_like, shut_same, talker_like}

-- a peer gave a get nothing: the connection with it is closed; or the job answers its word by FAILURE
pub record AddsCause (rows : RowsAndEnds) (w : Work) (e : Entry) (x : Work) : Type 0 where
  pub peer : ℕ
  pub cause : SourceCause
  pub list : x.causes ≡ w.causes ++ record { repo = peer; cause = cause } ∷ []
  pub gets : w.part ≡ Gets
  pub on : partner w.what.peer w.phase ≡ Some peer
  pub next : x.phase ≡ Next
  pub why : (cause ≡ sources.Closed) × (shut : ShutOn rows w e) × (shut.peer ≡ peer)

pub record AddsWord (w : Work) (e : Entry) (x : Work) : Type 0 where
  pub peer : ℕ
  pub start : ℕ
  pub size : ℕ
  pub phase_is : w.phase ≡ GetsWord peer start size
  pub list : x.causes ≡ w.causes ++ record { repo = peer; cause = source_cause start (taken_message e.taken) } ∷ []
  pub next : x.phase ≡ Next
  pub says : SaysFirst e Failure

abbrev pub Causes : RowsAndEnds → Work → Entry → Work → Type 0
Causes rows w e x = (x.causes ≡ w.causes) ⊎ (AddsCause rows w e x ⊎ AddsWord w e x)

-- what it heard is as it was, where it is not to go on to the next peer
abbrev pub ListOrNext : Work → Work → Type 0
ListOrNext w x = (x.phase ≡ Next) ⊎ (x.heard ≡ w.heard)

abbrev pub Carries : RowsAndEnds → Work → Entry → Work → Type 0
Carries rows w e x = (x.version ≡ w.version) × Causes rows w e x × ListOrNext w x

module _ (rows : RowsAndEnds) (r : ℕ) (e : Entry) where
  abbrev Keeps : Work → Work → Type 0
  Keeps w x = Carries rows w e x

  same : (w : Work) (phase : Phase) → Keeps w (to_phase w phase)
  same w phase = (refl, inl refl, inr refl)

  stays : (w : Work) → Keeps w w
  stays w = (refl, inl refl, inr refl)

  transferred_keeps : (w : Work) (o : Outcome) → Keeps w (after_transfer w o)
  transferred_keeps w o = if_either (Keeps w) (is_move w.what.kind) (record w { part = Drops; phase = Fresh; fills = false }) (record w { phase = Ends o; fills = false })
      (λ h. (refl, inl refl, inr refl)) (λ h. (refl, inl refl, inr refl))

  closed_keeps : (w : Work) (x : ShutOn rows w e) (part : Part) → w.part ≡ part → Keeps w (closed_part r w x.peer part)
  closed_keeps w x Gets is = (refl, inr (inl (record { peer = x.peer; cause = sources.Closed; list = refl; gets = is; on = x.on; next = refl; why = (refl, x, refl) })), inr refl)
  closed_keeps w x Puts is = same w _
  closed_keeps w x Drops is = if_either (Keeps w) (target_of r w == x.peer) (to_phase w (Ends (Refused (refusals.Lost (Jobs.is_ordered w.phase))))) (Jobs.hears w x.peer (Jobs.Lacks causes.Closed)) (λ h. same w _) (λ h. (refl, inl refl, inl refl))

  word_keeps : (w : Work) (phase : Phase) → w.phase ≡ phase → SaysFirst e Failure → Keeps w (word_taken w (taken_message e.taken) phase)
  word_keeps w (GetsWord peer start size) is h = (refl, inr (inr (record { peer = peer; start = start; size = size; phase_is = is; list = refl; next = refl; says = h })), inr refl)
  word_keeps w phase is h = stays w

  says_keeps : (w : Work) (time peer : ℕ) (m : Message) → SaysFirst e m → Keeps w (says w time peer (taken_message e.taken) m)
  says_keeps w time peer (Version n) h = same w _
  says_keeps w time peer (Message.Get n file key) h = same w _
  says_keeps w time peer (Message.Put file key) h = same w _
  says_keeps w time peer (Data n) h = same w _
  says_keeps w time peer Valid h = same w _
  says_keeps w time peer (Message.LockContent key) h = same w _
  says_keeps w time peer (Message.CheckPresent key) h = same w _
  says_keeps w time peer Message.GetTimestamp h = same w _
  says_keeps w time peer (Message.Remove key) h = same w _
  says_keeps w time peer (Message.RemoveBefore n key) h = same w _
  says_keeps w time peer Failure h = word_keeps w w.phase refl h
  says_keeps w time peer m h = stays w

  some_keeps : (w : Work) (time peer : ℕ) (m : Option Message) → ((x : Message) → m ≡ Some x → SaysFirst e x) → Keeps w (says_some w time peer (taken_message e.taken) m)
  some_keeps w time peer None h = stays w
  some_keeps w time peer (Some m) h = says_keeps w time peer m (h m refl)

  sends_keeps : (w : Work) (time peer : ℕ) (f : FrameView) (rest : List FrameView) → e.sent ≡ f ∷ rest → (body : FrameText) → f.body ≡ body → Keeps w (sends w time peer (taken_message e.taken) body)
  sends_keeps w time peer f rest sent Opening is = same w _
  sends_keeps w time peer f rest sent Closing is = stays w
  sends_keeps w time peer f rest sent (Bytes n) is = same w _
  sends_keeps w time peer f rest sent (Line text) is = some_keeps w time peer (message_of text) (λ x h. record { f = f; rest = rest; sent_is = sent; told = ap line_in is ∙ h })

  listens_keeps : (w : Work) (phase : Phase) (m : Message) → Keeps w (listens w phase m)
  listens_keeps w (AsksLock peer since) Success = (refl, inl refl, inl refl)
  listens_keeps w (AsksLook peer) Success = (refl, inl refl, inl refl)
  listens_keeps w (AsksLook peer) Failure = (refl, inl refl, inl refl)
  listens_keeps w Orders Success = same w _
  listens_keeps w Orders Failure = same w _
  listens_keeps w (Greets peer) (Version n) = same w _
  listens_keeps w (GetsData peer start) (Data n) = same w _
  listens_keeps w (PutsOffer peer) AlreadyHave = transferred_keeps w (Copied None)
  listens_keeps w (PutsOffer peer) (Error text) = same w _
  listens_keeps w (PutsOffer peer) Failure = same w _
  listens_keeps w (PutsAnswer peer start) Success = transferred_keeps w (Copied (Some start))
  listens_keeps w (PutsAnswer peer start) Failure = same w _
  listens_keeps w phase m = stays w

  line_keeps : (w : Work) (m : Option Message) → Keeps w (after_line w m)
  line_keeps w None = stays w
  line_keeps w (Some m) = listens_keeps w w.phase m

  took_keeps : (w : Work) (body : FrameText) → Keeps w (after_frame w body)
  took_keeps w (Bytes n) = same w _
  took_keeps w (Line text) = line_keeps w (message_of text)
  took_keeps w body = stays w

  first_keeps : (w : Work) (part : Part) (here : Bool) (bar : Option ℕ) → Keeps w (first_look r w part here bar)
  first_keeps w Gets true bar = transferred_keeps w (Got None None)
  first_keeps w Drops here bar = (refl, inl refl, inl refl)
  first_keeps w part here bar = same w _

  quiet_keeps : (w : Work) (phase : Phase) → Keeps w (quiet rows r w phase)
  quiet_keeps w Fresh = first_keeps w w.part (rows.present w.what.key) (rows.bar w.what.key)
  quiet_keeps w Next = same w _
  quiet_keeps w phase = stays w

  talks_keeps : (w : Work) (fs : List FrameView) → e.sent ≡ fs → Keeps w (talks rows r w e fs)
  talks_keeps w (f ∷ fs) sent = sends_keeps w e.time f.peer f fs sent f.body refl
  talks_keeps w [] sent = heard e.taken
    where
      heard : (o : Option FrameView) → Keeps w (hears_frame rows r w o)
      heard None = quiet_keeps w w.phase
      heard (Some f) = took_keeps w f.body

  pub on_keeps : (w : Work) (p : Option ℕ) → partner w.what.peer w.phase ≡ p → Keeps w (talks_on rows r w e p)
  on_keeps w None on = talks_keeps w e.sent refl
  on_keeps w (Some peer) on = if_either (Keeps w) (end_after (job_end w peer) (rows.ends (job_end w peer)) e).opened (talks rows r w e e.sent) (closed_part r w peer w.part)
      (λ h. talks_keeps w e.sent refl) (λ h. closed_keeps w (record { peer = peer; on = on; closed = h }) w.part refl)

  unreleased_keeps : (w : Work) (time : ℕ) (phase : Phase) → Keeps w (after_failed_release w time phase)
  unreleased_keeps w time Jobs.AsksTime = same w _
  unreleased_keeps w time phase = stays w

  fault_keeps : (w : Work) (part : Part) (side : Side) (phase : Phase) → Keeps w (fault_phase r w part side phase)
  fault_keeps w Drops Remote Fresh = (refl, inl refl, inl refl)
  fault_keeps w part side phase = same w _

  call_keeps : (w : Work) (call : Call) → Keeps w (fault_of r w e.time call)
  call_keeps w PutFile = stays w
  call_keeps w Unhold = unreleased_keeps w e.time w.phase
  call_keeps w call = fault_keeps w w.part (side_of w) w.phase

  gained_keeps : (w : Work) (phase : Phase) → Keeps w (after_gain w phase)
  gained_keeps w (GetsWord peer start size) = transferred_keeps w (Got (Some peer) (Some start))
  gained_keeps w phase = stays w

-- ---- the work as it talks

-- the version that it learns now
pub record Learns (w : Work) (e : Entry) (version : ℕ) : Type 0 where
  pub peer : ℕ
  pub phase_is : w.phase ≡ Greets peer
  pub is_peer : option_is w.what.peer peer ≡ true
  pub f : FrameView
  pub takes_it : e.taken ≡ Some f
  pub told : line_in f.body ≡ Some (Version version)

abbrev pub CarriesOn : RowsAndEnds → Work → Entry → Work → Type 0
CarriesOn rows w e x = ((x.version ≡ w.version) ⊎ Learns w e x.version) × Causes rows w e x × ListOrNext w x

learned : (w : Work) (e : Entry) (phase : Phase) → w.phase ≡ phase → (v : Work) → v.version ≡ w.version → v.what.peer ≡ w.what.peer → ((learns v phase e.taken).version ≡ w.version) ⊎ Learns w e (learns v phase e.taken).version
learned w e (Greets peer) is v same at = taken e.taken refl
  where
    taken : (o : Option FrameView) → e.taken ≡ o → ((learns v (Greets peer) o).version ≡ w.version) ⊎ Learns w e (learns v (Greets peer) o).version
    taken None h = inl same
    taken (Some f) h = go (option_is v.what.peer peer) refl (line_in f.body) refl
      where
        go : (b : Bool) → option_is v.what.peer peer ≡ b → (m : Option Message) → line_in f.body ≡ m
            → ((if b then record v { version = Jobs.version_said v.version m } else v).version ≡ w.version) ⊎ Learns w e (if b then record v { version = Jobs.version_said v.version m } else v).version
        go false k m told = inl same
        go true k (Some (Version n)) told = inr (record { peer = peer; phase_is = is; is_peer = ap (λ (o : Option ℕ). option_is o peer) (sym at) ∙ k; f = f; takes_it = h; told = told })
        go true k m told = inl same
learned w e phase is v same at = inl same

claims_carry : (w : Work) (part : Part) (phase : Phase) → ((claims w part phase).version ≡ w.version) × ((claims w part phase).what ≡ w.what) × ((claims w part phase).causes ≡ w.causes) × ((claims w part phase).heard ≡ w.heard)
claims_carry w Gets Fresh = (refl, refl, refl, refl)
claims_carry w part phase = (refl, refl, refl, refl)

learns_carry : (v : Work) (phase : Phase) (taken : Option FrameView) → ((learns v phase taken).causes ≡ v.causes) × ((learns v phase taken).heard ≡ v.heard)
learns_carry v (Greets peer) (Some f) = if_either (λ (y : Work). (y.causes ≡ v.causes) × (y.heard ≡ v.heard)) (option_is v.what.peer peer) (record v { version = Jobs.version_said v.version (line_in f.body) }) v (λ e. (refl, refl)) (λ e. (refl, refl))
learns_carry v phase taken = (refl, refl)

keeps_on : (rows : RowsAndEnds) (w : Work) (e : Entry) (x : Work) → Carries rows w e x → CarriesOn rows w e x
keeps_on rows w e x k = (inl k.0, k.1, k.2)

talker_on : (rows : RowsAndEnds) (r : ℕ) (w : Work) (e : Entry) (kind : EntryKind) (y x : Work) → Like w y → y.causes ≡ w.causes → y.heard ≡ w.heard → ((y.version ≡ w.version) ⊎ Learns w e y.version) → Carries rows y e x → CarriesOn rows w e x
talker_on rows r w e kind y x like list heard version k = (elim (version) [ inl a ↦ inl (k.0 ∙ a) | inr a ↦ inr (subst (Learns w e) (sym k.0) a) ], cause k.1, elim (k.2) [ inl n ↦ inl n | inr same ↦ inr (same ∙ heard) ])
  where
    what : y.what ≡ w.what
    what = ap (λ (j : Rattle.node_model.specs.Slots.RunningJob). j.what) like.job_is

    cause : Causes rows y e x → Causes rows w e x
    cause (inl same) = inl (same ∙ list)
    cause (inr (inl a)) = inr (inl (record {
      peer = a.peer;
      cause = a.cause;
      list = a.list ∙ ap (λ (cs : List SourceFailure). cs ++ record { repo = a.peer; cause = a.cause } ∷ []) list;
      gets = sym like.part_is ∙ a.gets;
      on = sym (λ i. partner (what i).peer (like.phase_is i)) ∙ a.on;
      next = a.next;
      why = (a.why.0, shut_like rows r e kind w y like a.why.1, shut_same rows r e kind w y like a.why.1 ∙ a.why.2);
    }))
    cause (inr (inr a)) = inr (inr (record {
      peer = a.peer;
      start = a.start;
      size = a.size;
      phase_is = sym like.phase_is ∙ a.phase_is;
      list = a.list ∙ ap (λ (cs : List SourceFailure). cs ++ record { repo = a.peer; cause = source_cause a.start (taken_message e.taken) } ∷ []) list;
      next = a.next;
      says = a.says;
    }))

-- **what an entry of a job carries on**
pub kind_carries : (rows : RowsAndEnds) (r : ℕ) (w : Work) (e : Entry) (kind : EntryKind) → CarriesOn rows w e (work_kind rows r w e kind)
kind_carries rows r w e (Fault call owner) = keeps_on rows w e _ (call_keeps rows r e w call)
kind_carries rows r w e (Bar job need key) = keeps_on rows w e _ (same rows r e w Next)
kind_carries rows r w e (Share hold end owner key) = (inl refl, inl refl, inl refl)
kind_carries rows r w e (Gone source key) = keeps_on rows w e _ (same rows r e w Jobs.Removed)
kind_carries rows r w e (Gain source size key) = keeps_on rows w e _ (gained_keeps rows r e w w.phase)
kind_carries rows r w e kind =
    let v = claims w w.part w.phase in
    let y = learns v w.phase e.taken in
    let like = talker_like w e.taken in
    let a = claims_carry w w.part w.phase in
    let b = learns_carry v w.phase e.taken in
    let what : y.what ≡ w.what = ap (λ (j : Rattle.node_model.specs.Slots.RunningJob). j.what) like.job_is in
    talker_on rows r w e kind y (talks_on rows r y e (partner w.what.peer w.phase)) like (b.0 ∙ a.2) (b.1 ∙ a.3) (learned w e w.phase refl v a.0 (ap (λ q. q.peer) a.1))
    (on_keeps rows r e y (partner w.what.peer w.phase) (λ i. partner (what i).peer (like.phase_is i)))
