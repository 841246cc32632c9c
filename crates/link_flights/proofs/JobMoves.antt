-- What an entry of a job adds to what it heard, and when it has its target's answer.
use Rattle.std.proofs.Common.{◌≡◌, ◌⊎◌, inl, inr, ℕ, Bool, true, false, List, [], ◌∷◌, Option, Some, None, refl, sym, ap, ◌∙◌, true≢false}
use Rattle.std.specs.Prelude.{◌==◌}
use Rattle.annex_base.specs.declared.kinds.Call.{Call}
use Rattle.annex_base.specs.declared.kinds.Call.TheVariants.{Unhold, PutFile}
use Rattle.annex_base.proofs.Conditions.{if_either}
use Rattle.drop_proof.specs.declared.rule.Side.{Side}
use Rattle.drop_proof.specs.declared.rule.Side.TheVariants.{Local, Remote}
use Rattle.run_data.specs.declared.entry.By.{By}
use Rattle.run_data.specs.declared.entry.Entry.{Entry}
use Rattle.run_data.specs.declared.entry.EntryKind.{EntryKind}
use Rattle.run_data.specs.declared.entry.EntryKind.TheVariants.{Gain, Share, Bar, Gone, Fault}
use Rattle.run_data.specs.declared.entry.FrameView.{FrameView}
use Rattle.run_data.specs.declared.entry.FrameText.{FrameText}
use Rattle.run_data.specs.declared.entry.FrameText.TheVariants.{Opening, Closing, Bytes, Line}
use Rattle.run_data.specs.declared.job.Outcome.{Outcome}
use Rattle.run_data.specs.declared.job.Outcome.TheVariants as outcomes
use Rattle.run_data.specs.declared.job.DropRefusal.TheVariants as refusals
use Rattle.run_data.specs.declared.job.Cause.TheVariants as causes
use Rattle.node_model.specs.Sessions.{line_in}
use Rattle.node_model.specs.Rows.{option_is}
use Rattle.p2p_wire.specs.declared.message.Message.{Message}
use Rattle.p2p_wire.specs.declared.message.Message.TheVariants as messages
use Rattle.p2p_wire.specs.declared.message.Message.TheVariants.{AlreadyHave, CheckPresent, Data, Error, Failure, Get, GetTimestamp, LockContent, Put, Remove, RemoveBefore, Success, Valid, Version}
use Rattle.p2p_wire.specs.Messages.{message_of}
use Rattle.node_model.specs.Ends.{end_after}
use Rattle.node_model.specs.Jobs
use Rattle.node_model.specs.Jobs.{AsksLock, AsksLook, AsksTime, Denied, Drops, Fresh, GetsBytes, GetsData, GetsWord, Gets, Greets, Heard, Next, Orders, Part, Phase, Puts, PutsAnswer, PutsBytes, PutsOffer, PutsWord, Removed, RowsAndEnds, Unseen, Work, after_failed_release, after_gain, after_transfer, claims, closed_part, fails_with, fault_of, fault_phase, first_look, gets_bytes, gets_more, hears, hears_frame, is_move, job_end, learns, listens, partner, put_from, puts_answer, puts_bytes, puts_more, quiet, running_job, says, says_some, sends, side_of, source_cause, taken_message, talks, talks_on, target_of, to_phase, unshared_cause, after_frame, after_line, word_taken, work_kind}
use Rattle.driver_model.specs.WordsRead.{is_answered}
use Rattle.run_laws.specs.Jobs.{keeps_word}

-- the job has its target's answer, whichever side it removes on
abbrev pub has_verdict : Phase → Bool
has_verdict Removed = true
has_verdict Denied = true
has_verdict phase = false

pub unanswered : (phase : Phase) → has_verdict phase ≡ false → (side : Side) → is_answered side phase ≡ false
unanswered Removed e side = absurd (true≢false e)
unanswered Denied e side = absurd (true≢false e)
unanswered phase e Local = refl
unanswered phase e Remote = refl

-- its look was refused by this frame
abbrev pub IsRefused : Work → Option FrameView → ℕ → Type 0
IsRefused w taken c = (w.phase ≡ AsksLook c) × ((f : FrameView) × (taken ≡ Some f) × (line_in f.body ≡ Some Failure))

-- its order was answered by it
abbrev pub IsObeyed : Work → Option FrameView → Type 0
IsObeyed w taken = (w.phase ≡ Orders) × ((f : FrameView) × (taken ≡ Some f) × (keeps_word Orders (line_in f.body) ≡ true))

-- it has heard one thing more, unseen where its look was refused; or nothing, and has its target's answer where it had it or this is it
abbrev pub News : Work → Option FrameView → Work → Type 0
News w taken v = ((c : ℕ) × (h : Heard) × (v.heard ≡ (c, h) ∷ w.heard) × (v.phase ≡ Next) × (h ≡ Unseen → IsRefused w taken c))
    ⊎ ((v.heard ≡ w.heard) × (is_answered (side_of w) v.phase ≡ true → (v.phase ≡ w.phase) ⊎ IsObeyed w taken))

pub record Moves (w : Work) (taken : Option FrameView) (v : Work) : Type 0 where
  pub same : running_job v ≡ running_job w
  pub news : News w taken v

module _ (w : Work) (taken : Option FrameView) where
  abbrev M : Work → Type 0
  M v = Moves w taken v

  plain : (v : Work) → running_job v ≡ running_job w → v.heard ≡ w.heard → has_verdict v.phase ≡ false → M v
  plain v same heard none = record { same = same; news = inr (heard, λ is. absurd (true≢false (sym is ∙ unanswered v.phase none (side_of w)))) }

  still : (v : Work) → running_job v ≡ running_job w → v.heard ≡ w.heard → v.phase ≡ w.phase → M v
  still v same heard phase = record { same = same; news = inr (heard, λ is. inl phase) }

  hears_plain : (c : ℕ) (h : Heard) → (h ≡ Unseen → IsRefused w taken c) → M (hears w c h)
  hears_plain c h refused = record { same = refl; news = inl (c, h, refl, refl, refused) }

  obeys : (phase : Phase) → IsObeyed w taken → M (to_phase w phase)
  obeys phase o = record { same = refl; news = inr (refl, λ is. inr o) }

  to_plain : (phase : Phase) → has_verdict phase ≡ false → M (to_phase w phase)
  to_plain phase none = plain (to_phase w phase) refl refl none

  -- ---- what it says

  more_puts : (peer start at left : ℕ) → has_verdict (puts_more peer start at left) ≡ false
  more_puts peer start at left = if_either (λ p. has_verdict p ≡ false) (left == 0) (PutsWord peer start) (PutsBytes peer start at left) (λ e. refl) (λ e. refl)

  more_gets : (peer start size left : ℕ) → has_verdict (gets_more peer start size left) ≡ false
  more_gets peer start size left = if_either (λ p. has_verdict p ≡ false) (left == 0) (GetsWord peer start size) (GetsBytes peer start size left) (λ e. refl) (λ e. refl)

  transferred : (o : Outcome) → M (after_transfer w o)
  transferred o = if_either M (is_move w.what.kind) (record w { part = Drops; phase = Fresh; fills = false }) (record w { phase = Jobs.Ends o; fills = false })
      (λ e. plain (record w { part = Drops; phase = Fresh; fills = false }) refl refl refl) (λ e. plain (record w { phase = Jobs.Ends o; fills = false }) refl refl refl)

  closed : (r peer : ℕ) (part : Part) → M (closed_part r w peer part)
  closed r peer Gets = plain (closed_part r w peer Gets) refl refl refl
  closed r peer Puts = plain (closed_part r w peer Puts) refl refl refl
  closed r peer Drops = if_either M (target_of r w == peer) (to_phase w (Jobs.Ends (outcomes.Refused (refusals.Lost (Jobs.is_ordered w.phase))))) (hears w peer (Jobs.Lacks causes.Closed))
      (λ e. to_plain (Jobs.Ends (outcomes.Refused (refusals.Lost (Jobs.is_ordered w.phase)))) refl) (λ e. hears_plain peer (Jobs.Lacks causes.Closed) (λ is. absurd (cc)))

  word_moves : (word : Option Message) (phase : Phase) → M (word_taken w word phase)
  word_moves word (GetsWord peer start size) = plain (fails_with w peer (source_cause start word)) refl refl refl
  word_moves word phase = still w refl refl refl

  put_plain : (peer n : ℕ) (m : Option Message) → has_verdict (put_from peer n m) ≡ false
  put_plain peer n (Some (messages.PutFrom start)) = more_puts peer start start n
  put_plain peer n m = refl

  answer_moves : (phase : Phase) → w.phase ≡ phase → M (to_phase w (puts_answer phase))
  answer_moves (PutsWord peer start) is = to_plain (PutsAnswer peer start) refl
  answer_moves phase is = still (to_phase w phase) refl refl (sym is)

  says_moves : (time peer : ℕ) (m : Option Message) (said : Message) → M (says w time peer m said)
  says_moves time peer m (Version n) = to_plain (Greets peer) refl
  says_moves time peer m (Get n file key) = to_plain (GetsData peer n) refl
  says_moves time peer m (Put file key) = to_plain (PutsOffer peer) refl
  says_moves time peer m (Data n) = to_plain (put_from peer n m) (put_plain peer n m)
  says_moves time peer m Valid = answer_moves w.phase refl
  says_moves time peer m (LockContent key) = to_plain (AsksLock peer time) refl
  says_moves time peer m (CheckPresent key) = to_plain (AsksLook peer) refl
  says_moves time peer m GetTimestamp = to_plain AsksTime refl
  says_moves time peer m (Remove key) = to_plain Orders refl
  says_moves time peer m (RemoveBefore n key) = to_plain Orders refl
  says_moves time peer m Failure = word_moves m w.phase
  says_moves time peer m said = still w refl refl refl

  says_some_moves : (time peer : ℕ) (m said : Option Message) → M (says_some w time peer m said)
  says_some_moves time peer m None = still w refl refl refl
  says_some_moves time peer m (Some said) = says_moves time peer m said

  bytes_moves : (n : ℕ) (phase : Phase) → w.phase ≡ phase → M (to_phase w (puts_bytes n phase))
  bytes_moves n (PutsBytes peer start at left) is = to_plain (puts_bytes n (PutsBytes peer start at left)) (more_puts peer start _ _)
  bytes_moves n phase is = still (to_phase w phase) refl refl (sym is)

  sends_moves : (time peer : ℕ) (m : Option Message) (body : FrameText) → M (sends w time peer m body)
  sends_moves time peer m Opening = to_plain (Jobs.Opens peer) refl
  sends_moves time peer m Closing = still w refl refl refl
  sends_moves time peer m (Bytes n) = bytes_moves n w.phase refl
  sends_moves time peer m (Line text) = says_some_moves time peer m (message_of text)

  -- ---- what it takes, and says nothing

  module _ (f : FrameView) (is_taken : taken ≡ Some f) where
    listens_moves : (phase : Phase) → w.phase ≡ phase → (m : Message) → line_in f.body ≡ Some m → M (listens w phase m)
    listens_moves (AsksLock peer since) is Success line = hears_plain peer (Jobs.Held since) (λ h. absurd (cc))
    listens_moves (AsksLook peer) is Success line = hears_plain peer Jobs.Seen (λ h. absurd (cc))
    listens_moves (AsksLook peer) is Failure line = hears_plain peer Unseen (λ h. (is, (f, is_taken, line)))
    listens_moves Orders is Success line = obeys Removed (is, (f, is_taken, ap (keeps_word Orders) line))
    listens_moves Orders is Failure line = obeys Denied (is, (f, is_taken, ap (keeps_word Orders) line))
    listens_moves (Greets peer) is (Version n) line = to_plain (Jobs.Ends (outcomes.Refused (refusals.OldProtocol n))) refl
    listens_moves (GetsData peer start) is (Data n) line = to_plain (gets_more peer start start n) (more_gets peer start start n)
    listens_moves (PutsOffer peer) is AlreadyHave line = transferred (outcomes.Copied None)
    listens_moves (PutsOffer peer) is (Error text) line = plain (listens w (PutsOffer peer) (Error text)) refl refl refl
    listens_moves (PutsOffer peer) is Failure line = plain (listens w (PutsOffer peer) Failure) refl refl refl
    listens_moves (PutsAnswer peer start) is Success line = transferred (outcomes.Copied (Some start))
    listens_moves (PutsAnswer peer start) is Failure line = plain (listens w (PutsAnswer peer start) Failure) refl refl refl
    listens_moves phase is m line = still w refl refl refl

    line_moves : (m : Option Message) → line_in f.body ≡ m → M (after_line w m)
    line_moves None line = still w refl refl refl
    line_moves (Some m) line = listens_moves w.phase refl m line

    gets_moves : (n : ℕ) (phase : Phase) → w.phase ≡ phase → M (to_phase w (gets_bytes n phase))
    gets_moves n (GetsBytes peer start size left) is = to_plain (gets_bytes n (GetsBytes peer start size left)) (more_gets peer start _ _)
    gets_moves n phase is = still (to_phase w phase) refl refl (sym is)

    took_moves : (body : FrameText) → f.body ≡ body → M (after_frame w body)
    took_moves Opening is = still w refl refl refl
    took_moves Closing is = still w refl refl refl
    took_moves (Bytes n) is = gets_moves n w.phase refl
    took_moves (Line text) is = line_moves (message_of text) (ap line_in is)

  first_moves : (r : ℕ) (part : Part) (here : Bool) (bar : Option ℕ) → M (first_look r w part here bar)
  first_moves r Gets true bar = transferred (outcomes.Got None None)
  first_moves r Drops here bar = hears_plain r (Jobs.Lacks (unshared_cause bar)) (λ is. absurd (cc))
  first_moves r part here bar = to_plain Next refl

  quiet_moves : (rows : RowsAndEnds) (r : ℕ) (phase : Phase) → M (quiet rows r w phase)
  quiet_moves rows r Fresh = first_moves r w.part (rows.present w.what.key) (rows.bar w.what.key)
  quiet_moves rows r Next = to_plain (Jobs.Ends (outcomes.Refused (refusals.OldProtocol w.version))) refl
  quiet_moves rows r phase = still w refl refl refl

  frame_moves : (rows : RowsAndEnds) (r : ℕ) (o : Option FrameView) → taken ≡ o → M (hears_frame rows r w o)
  frame_moves rows r None is = quiet_moves rows r w.phase
  frame_moves rows r (Some f) is = took_moves f is f.body refl

  talks_moves : (rows : RowsAndEnds) (r : ℕ) (e : Entry) → e.taken ≡ taken → (fs : List FrameView) → M (talks rows r w e fs)
  talks_moves rows r e is (f ∷ fs) = sends_moves e.time f.peer (taken_message e.taken) f.body
  talks_moves rows r e is [] = frame_moves rows r e.taken (sym is)

  on_moves : (rows : RowsAndEnds) (r : ℕ) (e : Entry) → e.taken ≡ taken → (p : Option ℕ) → M (talks_on rows r w e p)
  on_moves rows r e is None = talks_moves rows r e is e.sent
  on_moves rows r e is (Some peer) = if_either M (end_after (job_end w peer) (rows.ends (job_end w peer)) e).opened (talks rows r w e e.sent) (closed_part r w peer w.part)
      (λ h. talks_moves rows r e is e.sent) (λ h. closed r peer w.part)

  -- ---- a fault, and what changes rows

  fault_moves : (r : ℕ) (part : Part) (side : Side) (phase : Phase) → M (fault_phase r w part side phase)
  fault_moves r Drops Remote Fresh = hears_plain r (Jobs.Lacks causes.Fault) (λ is. absurd (cc))
  fault_moves r part side phase = to_plain (Jobs.Ends (Jobs.stores_fault w.part)) refl

  release_moves : (time : ℕ) (phase : Phase) → M (after_failed_release w time phase)
  release_moves time AsksTime = to_plain (Jobs.Late time) refl
  release_moves time phase = still w refl refl refl

  call_moves : (r time : ℕ) (call : Call) → M (fault_of r w time call)
  call_moves r time PutFile = still w refl refl refl
  call_moves r time Unhold = release_moves time w.phase
  call_moves r time call = fault_moves r w.part (side_of w) w.phase

  gain_moves : (phase : Phase) → M (after_gain w phase)
  gain_moves (GetsWord peer start size) = transferred (outcomes.Got (Some peer) (Some start))
  gain_moves phase = still w refl refl refl

-- ---- the work of which it is told

-- it has claimed the key, and learnt a version
pub record IsLike (w x : Work) : Type 0 where
  pub same : running_job x ≡ running_job w
  pub heard : x.heard ≡ w.heard
  pub phase : x.phase ≡ w.phase

pub claims_like : (w : Work) (part : Part) (phase : Phase) → IsLike w (claims w part phase)
claims_like w Gets Fresh = record { same = refl; heard = refl; phase = refl }
claims_like w part phase = record { same = refl; heard = refl; phase = refl }

pub learns_like : (w : Work) (phase : Phase) (taken : Option FrameView) → IsLike w (learns w phase taken)
learns_like w (Greets peer) (Some f) = if_either (IsLike w) (option_is w.what.peer peer) (record w { version = Jobs.version_said w.version (line_in f.body) }) w
    (λ e. record { same = refl; heard = refl; phase = refl }) (λ e. record { same = refl; heard = refl; phase = refl })
learns_like w phase taken = record { same = refl; heard = refl; phase = refl }

moves_like : (w x : Work) (taken : Option FrameView) (v : Work) → IsLike w x → Moves x taken v → Moves w taken v
moves_like w x taken v like moves = record { same = moves.same ∙ like.same; news = go moves.news }
  where
    side : side_of x ≡ side_of w
    side = ap (λ y. Jobs.drop_side y.what.kind y.what.peer) like.same

    go : News x taken v → News w taken v
    go (inl n) = inl (n.0, n.1, n.2 ∙ ap (λ hs. (n.0, n.1) ∷ hs) like.heard, n.3, λ is. let y = n.4 is in (sym like.phase ∙ y.0, y.1))
    go (inr n) = inr (n.0 ∙ like.heard, λ is. elim (n.1 (ap (λ s. is_answered s v.phase) side ∙ is)) [ inl p ↦ inl (p ∙ like.phase) | inr o ↦ inr (sym like.phase ∙ o.0, o.1) ])

-- what a job's entry makes of its work, where an entry that removes is a local drop's
pub kind_moves : (rows : RowsAndEnds) (r : ℕ) (w : Work) (e : Entry) (kind : EntryKind) → ((by : By) (key : List ℕ) → kind ≡ Gone by key → side_of w ≡ Local) → Moves w e.taken (work_kind rows r w e kind)
kind_moves rows r w e (Fault call owner) local = call_moves w e.taken r e.time call
kind_moves rows r w e (Bar job need key) local = to_plain w e.taken Next refl
kind_moves rows r w e (Share hold end owner key) local = hears_plain w e.taken r (Jobs.Held e.time) (λ is. absurd (cc))
kind_moves rows r w e (Gone source key) local = record { same = refl; news = inr (refl, λ is. absurd (true≢false (sym is ∙ ap (λ s. is_answered s Removed) (local source key refl)))) }
kind_moves rows r w e (Gain source size key) local = gain_moves w e.taken w.phase
kind_moves rows r w e kind local =
    let x = claims w w.part w.phase in
    let y = learns x w.phase e.taken in
    let one = claims_like w w.part w.phase in
    let two = learns_like x w.phase e.taken in
    moves_like w x e.taken (talks_on rows r y e (partner w.what.peer w.phase)) one
    (moves_like x y e.taken (talks_on rows r y e (partner w.what.peer w.phase)) two (on_moves y e.taken rows r e refl (partner w.what.peer w.phase)))
