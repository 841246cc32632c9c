-- How an entry of a job moves it: whose connection it then stands on, and whose cause it has gained.
use Rattle.std.proofs.Common.{◌≡◌, ℕ, ◌+◌, ◌-◌, Bool, true, false, List, [], ◌∷◌, Option, Some, None, ◌⊎◌, inl, inr, refl, sym, ap, ◌∙◌, subst, ◌++◌}
use Rattle.std.specs.Prelude.{if◌then◌else◌, ◌==◌}
use Rattle.annex_base.specs.Lists.{Member}
use Rattle.annex_base.specs.declared.kinds.Call.{Call}
use Rattle.annex_base.specs.declared.kinds.Call.TheVariants.{PutFile, Unhold}
use Rattle.annex_base.proofs.Conditions.{if_either}
use Rattle.drop_proof.specs.declared.rule.Side.{Side}
use Rattle.drop_proof.specs.declared.rule.Side.TheVariants.{Remote}
use Rattle.run_data.specs.declared.entry.Entry.{Entry}
use Rattle.run_data.specs.declared.entry.EntryKind.{EntryKind}
use Rattle.run_data.specs.declared.entry.EntryKind.TheVariants.{Bar, Fault, Gain, Gone, Share}
use Rattle.run_data.specs.declared.entry.FrameView.{FrameView}
use Rattle.run_data.specs.declared.entry.FrameText.{FrameText}
use Rattle.run_data.specs.declared.entry.FrameText.TheVariants.{Opening, Closing, Bytes, Line}
use Rattle.run_data.specs.declared.job.Outcome.{Outcome}
use Rattle.run_data.specs.declared.job.Outcome.TheVariants.{Copied, Got, Refused}
use Rattle.run_data.specs.declared.job.DropRefusal.TheVariants as refusals
use Rattle.p2p_wire.specs.declared.message.Message.{Message}
use Rattle.p2p_wire.specs.declared.message.Message.TheVariants.{Version, CheckPresent, LockContent, Remove, RemoveBefore, GetTimestamp, Get, Put, PutFrom, AlreadyHave, Data, Valid, Success, Failure, Error}
use Rattle.p2p_wire.specs.Messages.{message_of}
use Rattle.node_model.specs.Rows.{option_is}
use Rattle.node_model.specs.Ends.{end_after}
use Rattle.node_model.specs.Sessions.{line_in}
use Rattle.node_model.specs.Jobs
use Rattle.node_model.specs.Jobs.{AsksTime, Drops, Ends, Fresh, Gets, GetsBytes, GetsWord, Greets, Orders, Part, Phase, Puts, RowsAndEnds, Work, claims, closed_part, fault_of, fault_phase, first_look, gets_bytes, gets_more, hears_frame, job_end, learns, listens, partner, put_from, puts_answer, puts_bytes, puts_more, quiet, says, says_some, sends, side_of, taken_message, talks, talks_on, target_of, after_frame, after_line, after_transfer, after_failed_release, word_taken, work_kind}
use Rattle.job_facts.proofs.PhaseFacts.{only_word, readies_place}
use Rattle.run_data.specs.declared.job.SourceCause.{SourceCause}
use Rattle.job_facts.proofs.TalkFacts.{Fits}
use Rattle.std.proofs.lemmas.Option.{same_Some}

-- ---- how a job moves: whose connection it is on, and whose cause it has gained

-- a get gained the cause of its partner
pub record Gained (target : Option ℕ) (w y : Work) : Type 0 where
  pub peer : ℕ
  pub cause : SourceCause
  pub on : partner target w.phase ≡ Some peer
  pub list : y.causes ≡ w.causes ++ record { repo = peer; cause = cause } ∷ []
  pub next : y.phase ≡ Jobs.Next
  pub part_is : w.part ≡ Gets

-- a phase of a get or of a copy
abbrev pub OfTransfer : Phase → Type 0
OfTransfer phase = Fits Gets phase ⊎ Fits Puts phase

pub record Moves (target : Option ℕ) (w : Work) (sent : List FrameView) (y : Work) : Type 0 where
  pub causes : (y.causes ≡ w.causes) ⊎ Gained target w y
  pub place : OfTransfer y.phase → (p : ℕ) → partner target y.phase ≡ Some p → (partner target w.phase ≡ Some p) ⊎ ((g : FrameView) × Member g sent × (g.peer ≡ p))

module _ (target : Option ℕ) where
  -- on nobody's, and no cause
  away : (w : Work) (sent : List FrameView) (y : Work) → y.causes ≡ w.causes → partner target y.phase ≡ None → Moves target w sent y
  away w sent y c n = record { causes = inl c; place = λ f p on. absurd (let bad : None ≡ Some p = sym n ∙ on in cc) }

  -- a drop's phase
  apart : (w : Work) (sent : List FrameView) (y : Work) → y.causes ≡ w.causes → (OfTransfer y.phase → ⊥) → Moves target w sent y
  apart w sent y c n = record { causes = inl c; place = λ f p on. absurd (n f) }

  stays : (w : Work) (sent : List FrameView) (y : Work) → y.causes ≡ w.causes → ((p : ℕ) → partner target y.phase ≡ Some p → partner target w.phase ≡ Some p) → Moves target w sent y
  stays w sent y c s = record { causes = inl c; place = λ f p on. inl (s p on) }

  gains : (w : Work) (sent : List FrameView) (peer : ℕ) (cause : SourceCause) → partner target w.phase ≡ Some peer → w.part ≡ Gets → Moves target w sent (Jobs.fails_with w peer cause)
  gains w sent peer cause on part = record { causes = inr (record { peer = peer; cause = cause; on = on; list = refl; next = refl; part_is = part }); place = λ f p o. absurd (cc) }

  module _ (w : Work) (fit : Fits w.part w.phase) where
    word_moves : (sent : List FrameView) (word : Option Message) (phase : Phase) → w.phase ≡ phase → Moves target w sent (word_taken w word phase)
    word_moves sent word (GetsWord peer start size) is = gains w sent peer (_) (ap (partner target) is) (only_word w.part peer start size (subst (Fits w.part) is fit))
    word_moves sent word phase is = stays w sent w refl (λ p on. on)

    answer_moves : (sent : List FrameView) (phase : Phase) → w.phase ≡ phase → Moves target w sent (Jobs.to_phase w (puts_answer phase))
    answer_moves sent (Jobs.PutsWord peer start) is = stays w sent (Jobs.to_phase w (Jobs.PutsAnswer peer start)) refl (λ p on. ap (partner target) is ∙ on)
    answer_moves sent phase is = stays w sent (Jobs.to_phase w phase) refl (λ p on. ap (partner target) is ∙ on)

    puts_on : (b : Bool) (peer start at left : ℕ) (p : ℕ) → partner target (if b then Jobs.PutsWord peer start else Jobs.PutsBytes peer start at left) ≡ Some p → Some peer ≡ Some p
    puts_on true peer start at left p on = on
    puts_on false peer start at left p on = on

    from_on : (peer left : ℕ) (taken : Option Message) (p : ℕ) → partner target (put_from peer left taken) ≡ Some p → Some peer ≡ Some p
    from_on peer left (Some (PutFrom start)) p on = puts_on (left == 0) peer start start left p on
    from_on peer left taken p on = on

    -- to the peer of the frame
    here : (f : FrameView) (fs : List FrameView) (y : Work) → y.causes ≡ w.causes → ((p : ℕ) → partner target y.phase ≡ Some p → f.peer ≡ p) → Moves target w (f ∷ fs) y
    here f fs y c at = record { causes = inl c; place = λ fi p on. inr (f, inl refl, at p on) }

    no_drop : ⊥ ⊎ ⊥ → ⊥
    no_drop (inl z) = z
    no_drop (inr z) = z

    says_moves : (time : ℕ) (f : FrameView) (fs : List FrameView) (taken : Option Message) (m : Message) → Moves target w (f ∷ fs) (says w time f.peer taken m)
    says_moves time f fs taken (Version n) = here f fs (Jobs.to_phase w (Greets f.peer)) refl (λ p on. cc)
    says_moves time f fs taken (Get n file key) = here f fs (Jobs.to_phase w (Jobs.GetsData f.peer n)) refl (λ p on. cc)
    says_moves time f fs taken (Put file key) = here f fs (Jobs.to_phase w (Jobs.PutsOffer f.peer)) refl (λ p on. cc)
    says_moves time f fs taken (Data n) = here f fs (Jobs.to_phase w (put_from f.peer n taken)) refl (λ p on. same_Some f.peer p (from_on f.peer n taken p on))
    says_moves time f fs taken Valid = answer_moves (f ∷ fs) w.phase refl
    says_moves time f fs taken (LockContent key) = here f fs (Jobs.to_phase w (Jobs.AsksLock f.peer time)) refl (λ p on. cc)
    says_moves time f fs taken (CheckPresent key) = here f fs (Jobs.to_phase w (Jobs.AsksLook f.peer)) refl (λ p on. cc)
    says_moves time f fs taken GetTimestamp = apart w (f ∷ fs) (Jobs.to_phase w AsksTime) refl no_drop
    says_moves time f fs taken (Remove key) = apart w (f ∷ fs) (Jobs.to_phase w Orders) refl no_drop
    says_moves time f fs taken (RemoveBefore n key) = apart w (f ∷ fs) (Jobs.to_phase w Orders) refl no_drop
    says_moves time f fs taken Failure = word_moves (f ∷ fs) taken w.phase refl
    says_moves time f fs taken m = stays w (f ∷ fs) w refl (λ p on. on)

    bytes_moves : (sent : List FrameView) (n : ℕ) (phase : Phase) → w.phase ≡ phase → Moves target w sent (Jobs.to_phase w (puts_bytes n phase))
    bytes_moves sent n (Jobs.PutsBytes peer start at left) is =
        stays w sent (Jobs.to_phase w (puts_more peer start (at + n) (left - n))) refl (λ p on. ap (partner target) is ∙ puts_on (left - n == 0) peer start (at + n) (left - n) p on)
    bytes_moves sent n phase is = stays w sent (Jobs.to_phase w phase) refl (λ p on. ap (partner target) is ∙ on)

    sends_moves : (time : ℕ) (taken : Option Message) (f : FrameView) (fs : List FrameView) (body : FrameText) → Moves target w (f ∷ fs) (sends w time f.peer taken body)
    sends_moves time taken f fs Opening = here f fs (Jobs.to_phase w (Jobs.Opens f.peer)) refl (λ p on. cc)
    sends_moves time taken f fs Closing = stays w (f ∷ fs) w refl (λ p on. on)
    sends_moves time taken f fs (Bytes n) = bytes_moves (f ∷ fs) n w.phase refl
    sends_moves time taken f fs (Line text) = line (message_of text)
      where
        line : (o : Option Message) → Moves target w (f ∷ fs) (says_some w time f.peer taken o)
        line None = stays w (f ∷ fs) w refl (λ p on. on)
        line (Some m) = says_moves time f fs taken m

    transferred_moves : (sent : List FrameView) (o : Outcome) → Moves target w sent (after_transfer w o)
    transferred_moves sent o = if_either (Moves target w sent) (Jobs.is_move w.what.kind) (record w { part = Drops; phase = Fresh; fills = false }) (record w { phase = Ends o; fills = false })
        (λ e. away w sent (record w { part = Drops; phase = Fresh; fills = false }) refl refl) (λ e. away w sent (record w { phase = Ends o; fills = false }) refl refl)

    look_moves : (sent : List FrameView) (r : ℕ) (part : Part) (there : Bool) (bar : Option ℕ) → Moves target w sent (first_look r w part there bar)
    look_moves sent r Gets true bar = transferred_moves sent (Got None None)
    look_moves sent r Drops there bar = away w sent (first_look r w Drops there bar) refl refl
    look_moves sent r Gets false bar = away w sent (first_look r w Gets false bar) refl refl
    look_moves sent r Puts there bar = away w sent (first_look r w Puts there bar) refl refl

    quiet_moves : (sent : List FrameView) (rows : RowsAndEnds) (r : ℕ) (phase : Phase) → Moves target w sent (quiet rows r w phase)
    quiet_moves sent rows r Fresh = look_moves sent r w.part (rows.present w.what.key) (rows.bar w.what.key)
    quiet_moves sent rows r Jobs.Next = away w sent (quiet rows r w Jobs.Next) refl refl
    quiet_moves sent rows r phase = stays w sent w refl (λ p on. on)

    more_on : (b : Bool) (peer start size left : ℕ) (p : ℕ) → partner target (if b then GetsWord peer start size else GetsBytes peer start size left) ≡ Some p → Some peer ≡ Some p
    more_on true peer start size left p on = on
    more_on false peer start size left p on = on

    listens_moves : (sent : List FrameView) (phase : Phase) (m : Message) → w.phase ≡ phase → Moves target w sent (listens w phase m)
    listens_moves sent (Jobs.AsksLock peer since) Success is = away w sent (_) refl refl
    listens_moves sent (Jobs.AsksLook peer) Success is = away w sent (_) refl refl
    listens_moves sent (Jobs.AsksLook peer) Failure is = away w sent (_) refl refl
    listens_moves sent Orders Success is = away w sent (_) refl refl
    listens_moves sent Orders Failure is = away w sent (_) refl refl
    listens_moves sent (Greets peer) (Version n) is = away w sent (_) refl refl
    listens_moves sent (Jobs.GetsData peer start) (Data n) is = stays w sent (Jobs.to_phase w (gets_more peer start start n)) refl (λ p on. ap (partner target) is ∙ more_on (n == 0) peer start start n p on)
    listens_moves sent (Jobs.PutsOffer peer) AlreadyHave is = transferred_moves sent (Copied None)
    listens_moves sent (Jobs.PutsOffer peer) (Error text) is = away w sent (_) refl refl
    listens_moves sent (Jobs.PutsOffer peer) Failure is = away w sent (_) refl refl
    listens_moves sent (Jobs.PutsAnswer peer start) Success is = transferred_moves sent (Copied (Some start))
    listens_moves sent (Jobs.PutsAnswer peer start) Failure is = away w sent (_) refl refl
    listens_moves sent phase m is = stays w sent w refl (λ p on. on)

    got_moves : (sent : List FrameView) (n : ℕ) (phase : Phase) → w.phase ≡ phase → Moves target w sent (Jobs.to_phase w (gets_bytes n phase))
    got_moves sent n (GetsBytes peer start size left) is = stays w sent (Jobs.to_phase w (gets_more peer start (size + n) (left - n))) refl (λ p on. ap (partner target) is ∙ more_on (left - n == 0) peer start (size + n) (left - n) p on)
    got_moves sent n phase is = stays w sent (Jobs.to_phase w phase) refl (λ p on. ap (partner target) is ∙ on)

    took_moves : (sent : List FrameView) (body : FrameText) → Moves target w sent (after_frame w body)
    took_moves sent (Bytes n) = got_moves sent n w.phase refl
    took_moves sent (Line text) = line (message_of text)
      where
        line : (o : Option Message) → Moves target w sent (after_line w o)
        line None = stays w sent w refl (λ p on. on)
        line (Some m) = listens_moves sent w.phase m refl
    took_moves sent Opening = stays w sent w refl (λ p on. on)
    took_moves sent Closing = stays w sent w refl (λ p on. on)

    closed_moves : (sent : List FrameView) (r peer : ℕ) (part : Part) → w.part ≡ part → partner target w.phase ≡ Some peer → Moves target w sent (closed_part r w peer part)
    closed_moves sent r peer Gets is on = gains w sent peer (_) on is
    closed_moves sent r peer Puts is on = away w sent (closed_part r w peer Puts) refl refl
    closed_moves sent r peer Drops is on = if_either (Moves target w sent) (target_of r w == peer) (Jobs.to_phase w (Ends (Refused (refusals.Lost (Jobs.is_ordered w.phase))))) (Jobs.hears w peer (Jobs.Lacks Rattle.run_data.specs.declared.job.Cause.TheVariants.Closed))
        (λ e. away w sent (_) refl refl) (λ e. away w sent (_) refl refl)

    talks_moves : (rows : RowsAndEnds) (r : ℕ) (e : Entry) (fs : List FrameView) → Moves target w fs (talks rows r w e fs)
    talks_moves rows r e (f ∷ fs) = sends_moves e.time (taken_message e.taken) f fs f.body
    talks_moves rows r e [] = go e.taken
      where
        go : (o : Option FrameView) → Moves target w [] (hears_frame rows r w o)
        go None = quiet_moves [] rows r w.phase
        go (Some f) = took_moves [] f.body

    on_moves : (rows : RowsAndEnds) (r : ℕ) (e : Entry) (p : Option ℕ) → partner target w.phase ≡ p → Moves target w e.sent (talks_on rows r w e p)
    on_moves rows r e None on = talks_moves rows r e e.sent
    on_moves rows r e (Some peer) on = if_either (Moves target w e.sent) (end_after (job_end w peer) (rows.ends (job_end w peer)) e).opened (talks rows r w e e.sent) (closed_part r w peer w.part)
        (λ o. talks_moves rows r e e.sent) (λ o. closed_moves e.sent r peer w.part refl on)

    fault_moves : (sent : List FrameView) (r : ℕ) (part : Part) (side : Side) (phase : Phase) → Moves target w sent (fault_phase r w part side phase)
    fault_moves sent r Drops Remote Fresh = away w sent (_) refl refl
    fault_moves sent r part side phase = away w sent (_) refl refl

    unheld_moves : (sent : List FrameView) (time : ℕ) (phase : Phase) → Moves target w sent (after_failed_release w time phase)
    unheld_moves sent time AsksTime = away w sent (_) refl refl
    unheld_moves sent time phase = stays w sent w refl (λ p on. on)

    call_moves : (sent : List FrameView) (r time : ℕ) (call : Call) → Moves target w sent (fault_of r w time call)
    call_moves sent r time PutFile = stays w sent w refl (λ p on. on)
    call_moves sent r time Unhold = unheld_moves sent time w.phase
    call_moves sent r time call = fault_moves sent r w.part (side_of w) w.phase

    gained_moves : (sent : List FrameView) (phase : Phase) → Moves target w sent (Jobs.after_gain w phase)
    gained_moves sent (GetsWord peer start size) = transferred_moves sent (Got (Some peer) (Some start))
    gained_moves sent phase = stays w sent w refl (λ p on. on)

  -- a work with its causes, part and phase
  like : (w y : Work) (sent : List FrameView) (z : Work) → y.causes ≡ w.causes → y.part ≡ w.part → y.phase ≡ w.phase → Moves target y sent z → Moves target w sent z
  like w y sent z c part phase x = record {
    causes = elim (x.causes) [
      | inl same ↦ inl (same ∙ c)
      | inr g ↦ inr (record { peer = g.peer; cause = g.cause; on = sym (ap (partner target) phase) ∙ g.on; list = g.list ∙ ap (λ xs. xs ++ record { repo = g.peer; cause = g.cause } ∷ []) c; next = g.next; part_is = sym part ∙ g.part_is })
    ];
    place = λ f p on. elim (x.place f p on) [ inl o ↦ inl (sym (ap (partner target) phase) ∙ o) | inr g ↦ inr g ];
  }

claims_causes : (w : Work) (part : Part) (phase : Phase) → (claims w part phase).causes ≡ w.causes
claims_causes w Gets Fresh = refl
claims_causes w part phase = refl

learns_causes : (w : Work) (phase : Phase) (o : Option FrameView) → (learns w phase o).causes ≡ w.causes
learns_causes w (Greets peer) (Some f) = if_either (λ (x : Work). x.causes ≡ w.causes) (option_is w.what.peer peer) (record w { version = Jobs.version_said w.version (line_in f.body) }) w (λ e. refl) (λ e. refl)
learns_causes w phase o = refl

-- **how any entry of a job moves it**
pub kind_moves : (rows : RowsAndEnds) (r : ℕ) (w : Work) (e : Entry) → Fits w.part w.phase → (kind : EntryKind) → Moves w.what.peer w e.sent (work_kind rows r w e kind)
kind_moves rows r w e fit (Fault call owner) = call_moves w.what.peer w fit e.sent r e.time call
kind_moves rows r w e fit (Bar job need key) = away w.what.peer w e.sent (work_kind rows r w e (Bar job need key)) refl refl
kind_moves rows r w e fit (Share hold end owner key) = away w.what.peer w e.sent (work_kind rows r w e (Share hold end owner key)) refl refl
kind_moves rows r w e fit (Gone source key) = away w.what.peer w e.sent (work_kind rows r w e (Gone source key)) refl refl
kind_moves rows r w e fit (Gain source size key) = gained_moves w.what.peer w fit e.sent w.phase
kind_moves rows r w e fit kind =
    let y = learns (claims w w.part w.phase) w.phase e.taken in
    let place = readies_place w e.taken in
    let fit' : Fits y.part y.phase = subst (λ q. Fits q y.phase) (sym place.0) (subst (Fits w.part) (sym place.1) fit) in
    like w.what.peer w y e.sent (talks_on rows r y e (partner w.what.peer w.phase)) (learns_causes (claims w w.part w.phase) w.phase e.taken ∙ claims_causes w w.part w.phase) place.0 place.1
    (on_moves w.what.peer y fit' rows r e (partner w.what.peer w.phase) (ap (partner w.what.peer) place.1))
