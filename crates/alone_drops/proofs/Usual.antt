-- Where a drop comes to: to a removal from an order alone, to a look for a reason, and to no outcome but a refusal.
use Rattle.std.proofs.Common.{◌≡◌, ℕ, List, [], ◌∷◌, Option, Some, None, refl, ap}
use Rattle.std.specs.Prelude.{◌==◌}
use Rattle.annex_base.proofs.Conditions.{if_either}
use Rattle.run_data.specs.declared.entry.Entry.{Entry}
use Rattle.run_data.specs.declared.entry.FrameView.{FrameView}
use Rattle.run_data.specs.declared.entry.FrameText.{FrameText}
use Rattle.run_data.specs.declared.entry.FrameText.TheVariants.{Opening, Closing, Bytes, Line}
use Rattle.run_data.specs.declared.job.Outcome.TheVariants.{Refused}
use Rattle.run_data.specs.declared.job.DropRefusal.TheVariants as refusals
use Rattle.run_data.specs.declared.job.Cause.TheVariants as causes
use Rattle.p2p_wire.specs.declared.message.Message.{Message}
use Rattle.p2p_wire.specs.declared.message.Message.TheVariants.{Version, LockContent, CheckPresent, GetTimestamp, Remove, RemoveBefore, Get, Put, PutFrom, AlreadyHave, Data, Valid, Success, Failure, Error}
use Rattle.p2p_wire.specs.Messages.{message_of}
use Rattle.node_model.specs.Ends.{end_after}
use Rattle.node_model.specs.Sessions.{line_in}
use Rattle.node_model.specs.Jobs
use Rattle.node_model.specs.Jobs.{AsksTime, Part, Drops, Phase, Fresh, Next, Opens, Greets, GetsData, GetsBytes, GetsWord, PutsOffer, PutsBytes, PutsWord, PutsAnswer, AsksLock, AsksLook, Orders, Removed, Ends, RowsAndEnds, Work, after_frame, after_line, closed_part, gets_bytes, hears_frame, is_ordered, job_end, listens, put_from, puts_answer, puts_bytes, puts_more, quiet, says, says_some, sends, talks, talks_on, taken_message, target_of, to_phase, word_taken}

module _ (R : Type 0) (Q : ℕ → Type 0) where
  -- a drop that is under way
  abbrev pub Asking : Phase → Type 0
  Asking Next = Unit {0}
  Asking (Opens peer) = Unit {0}
  Asking (Greets peer) = Unit {0}
  Asking (AsksLock peer since) = Unit {0}
  Asking (AsksLook peer) = Q peer
  Asking AsksTime = Unit {0}
  Asking Orders = R
  Asking phase = ⊥

  abbrev pub Usual : Phase → Type 0
  Usual Removed = R
  Usual (AsksLook peer) = Q peer
  Usual (Ends (Refused refusal)) = Unit {0}
  Usual (Ends outcome) = ⊥
  Usual phase = Unit {0}

  usual_of : (phase : Phase) → Asking phase → Usual phase
  usual_of Removed a = absurd a
  usual_of (Ends (Refused refusal)) a = absurd a
  usual_of (Ends outcome) a = absurd a
  usual_of (AsksLook peer) a = a
  usual_of phase a = tt

  more_usual : (peer start at left : ℕ) → Usual (puts_more peer start at left)
  more_usual peer start at left = if_either Usual (left == 0) (PutsWord peer start) (PutsBytes peer start at left) (λ e. tt) (λ e. tt)

  from_usual : (peer left : ℕ) (taken : Option Message) → Usual (put_from peer left taken)
  from_usual peer left (Some (PutFrom start)) = more_usual peer start start left
  from_usual peer left taken = tt

  answer_usual : (phase : Phase) → Asking phase → Usual (puts_answer phase)
  answer_usual (PutsWord peer start) a = absurd a
  answer_usual phase a = usual_of phase a

  word_usual : (w : Work) (taken : Option Message) (phase : Phase) → Asking phase → Usual w.phase → Usual (word_taken w taken phase).phase
  word_usual w taken (GetsWord peer start size) a u = absurd a
  word_usual w taken phase a u = u

  says_usual : (w : Work) (time peer : ℕ) (taken : Option Message) (m : Message) → ((key : List ℕ) → m ≡ CheckPresent key → Q peer) → Asking w.phase → Usual (says w time peer taken m).phase
  says_usual w time peer taken (Version n) q a = tt
  says_usual w time peer taken (Get n file key) q a = tt
  says_usual w time peer taken (Put file key) q a = tt
  says_usual w time peer taken (Data n) q a = from_usual peer n taken
  says_usual w time peer taken Valid q a = answer_usual w.phase a
  says_usual w time peer taken (LockContent key) q a = tt
  says_usual w time peer taken (CheckPresent key) q a = q key refl
  says_usual w time peer taken GetTimestamp q a = tt
  says_usual w time peer taken (Remove key) q a = tt
  says_usual w time peer taken (RemoveBefore n key) q a = tt
  says_usual w time peer taken Failure q a = word_usual w taken w.phase a (usual_of w.phase a)
  says_usual w time peer taken m q a = usual_of w.phase a

  said_usual : (w : Work) (time peer : ℕ) (taken : Option Message) (o : Option Message) → ((key : List ℕ) → o ≡ Some (CheckPresent key) → Q peer) → Asking w.phase → Usual (says_some w time peer taken o).phase
  said_usual w time peer taken None q a = usual_of w.phase a
  said_usual w time peer taken (Some m) q a = says_usual w time peer taken m (λ key is. q key (ap Some is)) a

  bytes_usual : (n : ℕ) (phase : Phase) → Asking phase → Usual (puts_bytes n phase)
  bytes_usual n (PutsBytes peer start at left) a = absurd a
  bytes_usual n phase a = usual_of phase a

  sends_usual : (w : Work) (time peer : ℕ) (taken : Option Message) (body : FrameText) → ((key : List ℕ) → line_in body ≡ Some (CheckPresent key) → Q peer) → Asking w.phase → Usual (sends w time peer taken body).phase
  sends_usual w time peer taken Opening q a = tt
  sends_usual w time peer taken Closing q a = usual_of w.phase a
  sends_usual w time peer taken (Bytes n) q a = bytes_usual n w.phase a
  sends_usual w time peer taken (Line text) q a = said_usual w time peer taken (message_of text) q a

  listens_usual : (w : Work) (phase : Phase) (m : Message) → Asking phase → Usual w.phase → Usual (listens w phase m).phase
  listens_usual w (AsksLock peer since) Success a u = tt
  listens_usual w (AsksLook peer) Success a u = tt
  listens_usual w (AsksLook peer) Failure a u = tt
  listens_usual w Orders Success a u = a
  listens_usual w Orders Failure a u = tt
  listens_usual w (Greets peer) (Version n) a u = tt
  listens_usual w (GetsData peer start) (Data n) a u = absurd a
  listens_usual w (PutsOffer peer) AlreadyHave a u = absurd a
  listens_usual w (PutsOffer peer) (Error text) a u = absurd a
  listens_usual w (PutsOffer peer) Failure a u = absurd a
  listens_usual w (PutsAnswer peer start) Success a u = absurd a
  listens_usual w (PutsAnswer peer start) Failure a u = absurd a
  listens_usual w phase m a u = u

  line_usual : (w : Work) (o : Option Message) → Asking w.phase → Usual (after_line w o).phase
  line_usual w None a = usual_of w.phase a
  line_usual w (Some m) a = listens_usual w w.phase m a (usual_of w.phase a)

  gets_usual : (n : ℕ) (phase : Phase) → Asking phase → Usual (gets_bytes n phase)
  gets_usual n (GetsBytes peer start size left) a = absurd a
  gets_usual n phase a = usual_of phase a

  frame_usual : (w : Work) (body : FrameText) → Asking w.phase → Usual (after_frame w body).phase
  frame_usual w (Bytes n) a = gets_usual n w.phase a
  frame_usual w (Line text) a = line_usual w (message_of text) a
  frame_usual w body a = usual_of w.phase a

  quiet_usual : (rows : RowsAndEnds) (r : ℕ) (w : Work) (phase : Phase) → Asking phase → Usual w.phase → Usual (quiet rows r w phase).phase
  quiet_usual rows r w Fresh a u = absurd a
  quiet_usual rows r w Next a u = tt
  quiet_usual rows r w phase a u = u

  hears_usual : (rows : RowsAndEnds) (r : ℕ) (w : Work) (o : Option FrameView) → Asking w.phase → Usual (hears_frame rows r w o).phase
  hears_usual rows r w None a = quiet_usual rows r w w.phase a (usual_of w.phase a)
  hears_usual rows r w (Some f) a = frame_usual w f.body a

  talks_usual : (rows : RowsAndEnds) (r : ℕ) (w : Work) (e : Entry) (fs : List FrameView) → ((g : FrameView) (gs : List FrameView) (key : List ℕ) → fs ≡ g ∷ gs → line_in g.body ≡ Some (CheckPresent key) → Q g.peer) → Asking w.phase → Usual (talks rows r w e fs).phase
  talks_usual rows r w e (f ∷ fs) q a = sends_usual w e.time f.peer (taken_message e.taken) f.body (λ key is. q f fs key refl is) a
  talks_usual rows r w e [] q a = hears_usual rows r w e.taken a

  closed_usual : (r : ℕ) (w : Work) (peer : ℕ) (part : Part) → part ≡ Drops → Usual (closed_part r w peer part).phase
  closed_usual r w peer Drops is = if_either (λ (x : Work). Usual x.phase) (target_of r w == peer) (to_phase w (Ends (Refused (refusals.Lost (is_ordered w.phase))))) (Jobs.hears w peer (Jobs.Lacks causes.Closed)) (λ e. tt) (λ e. tt)
  closed_usual r w peer part is = absurd (cc)

  pub on_usual : (rows : RowsAndEnds) (r : ℕ) (w : Work) (e : Entry) (o : Option ℕ) → ((g : FrameView) (gs : List FrameView) (key : List ℕ) → e.sent ≡ g ∷ gs → line_in g.body ≡ Some (CheckPresent key) → Q g.peer) → w.part ≡ Drops → Asking w.phase → Usual (talks_on rows r w e o).phase
  on_usual rows r w e None q part a = talks_usual rows r w e e.sent q a
  on_usual rows r w e (Some peer) q part a = if_either (λ (x : Work). Usual x.phase) (end_after (job_end w peer) (rows.ends (job_end w peer)) e).opened (talks rows r w e e.sent) (closed_part r w peer w.part)
      (λ e'. talks_usual rows r w e e.sent q a) (λ e'. closed_usual r w peer w.part part)
