-- What a session's answer to a frame makes of the parts.
use Rattle.std.proofs.Common.{◌≡◌, ℕ, Bool, true, false, List, [], ◌∷◌, Option, Some, None, refl, ap}
use Rattle.std.specs.Prelude.{◌&&◌, nat_le, nat_lt}
use Rattle.annex_base.specs.declared.kinds.Call.{Call}
use Rattle.annex_base.specs.declared.kinds.Call.TheVariants as calls
use Rattle.annex_base.proofs.Conditions.{if_either}
use Rattle.run_data.specs.declared.entry.EntryKind.{EntryKind}
use Rattle.run_data.specs.declared.entry.EntryKind.TheVariants.{Close, Fault, Gain, Talk}
use Rattle.run_data.specs.declared.entry.FrameText.{FrameText}
use Rattle.run_data.specs.declared.entry.FrameText.TheVariants.{Bytes, Closing, Line, Opening}
use Rattle.run_data.specs.declared.entry.FrameView.{FrameView}
use Rattle.p2p_wire.specs.declared.message.Message.{Message}
use Rattle.p2p_wire.specs.declared.message.Message.TheVariants.{Valid}
use Rattle.p2p_wire.specs.Messages.{message_of}
use Rattle.object_store.specs.Stores.{Parts}
use Rattle.node_model.specs.Calls.{to_commit}
use Rattle.node_model.specs.Look.{failing_call, unless}
use Rattle.node_model.specs.Sessions.{Doing, Session, Takes, Took}
use Rattle.node_model.specs.SessionStep.{Here, Reply, by_of, on_bytes, on_frame, on_message, on_text, failure_line, silent_reply, tries, unexpected_reply, valid_answer}
use Rattle.driver_model.specs.Turning.{is_valid}
use Rattle.node_sessions.specs.Stored.{is_verdict, parts_after_frame}
use Rattle.fleet_model.proofs.JobsStored.{LeavesParts}

-- the store's parts stay, by an entry of this kind
abbrev pub Stays : Doing → FrameText → EntryKind → Type 0
Stays doing body kind = (bytes : List ℕ) (known : Option Parts) → parts_after_frame doing body bytes kind known ≡ known

-- a talk leaves the parts, appends the piece that it took, or drops the part that it refuses
pub data Talks (doing : Doing) (body : FrameText) (says : List FrameText) (job : Option ℕ) : Type 0 where
  Leaves : Stays doing body (Talk job) → ((sent : List FrameView) → LeavesParts body sent) → Talks doing body says job
  Appends : (key : List ℕ) (size left n : ℕ) → job ≡ None → doing ≡ Takes key size left → body ≡ Bytes n → says ≡ [] → Talks doing body says job
  Refuses : (key : List ℕ) (size : ℕ) (text : List ℕ) → job ≡ None → doing ≡ Took key size → body ≡ Line text → message_of text ≡ Some Valid → says ≡ failure_line → Talks doing body says job

-- by an entry of any other kind, but a gain, they stay
abbrev pub Fits : Doing → FrameText → List FrameText → EntryKind → Type 0
Fits doing body says (Talk job) = Talks doing body says job
Fits doing body says (Gain by size key) = Unit {0}
Fits doing body says (Fault call by) = Unit {0}
Fits doing body says kind = Stays doing body kind

abbrev pub ReplyFits : Doing → FrameText → Reply → Type 0
ReplyFits doing body x = Fits doing body x.says x.kind

tries_fits : (h : Here) (doing : Doing) (body : FrameText) (cs : List Call) (says : List FrameText) (good : Reply) → ReplyFits doing body good → ReplyFits doing body (tries h cs says good)
tries_fits h doing body cs says good fits = go (failing_call h.fails cs)
  where
    go : (c : Option Call) → ReplyFits doing body (unless c (λ call. record { kind = Fault call (by_of h); says = says; calls = [] }) good)
    go None = fits
    go (Some call) = tt

-- ---- a line

-- neither a store's parts nor the driver's change by this line
record Untouched (doing : Doing) (text : List ℕ) : Type 0 where
  parts : (kind : EntryKind) → Stays doing (Line text) kind
  leaves : (sent : List FrameView) → LeavesParts (Line text) sent

no_verdict : (o : Option Message) → is_valid o ≡ false → is_verdict o ≡ false
no_verdict (Some Valid) e = absurd (cc)
no_verdict o e = refl

untouched : (doing : Doing) (text : List ℕ) → is_valid (message_of text) ≡ false → Untouched doing text
untouched doing text e = record { parts = stays doing; leaves = λ sent r key bytes d. rw e refl }
  where
    stays : (doing : Doing) (kind : EntryKind) → Stays doing (Line text) kind
    stays (Took key size) kind = λ bytes known. rw (no_verdict (message_of text) e) refl
    stays doing kind = λ bytes known. refl

untouched_fits : (doing : Doing) (text : List ℕ) (says : List FrameText) (kind : EntryKind) → Untouched doing text → Fits doing (Line text) says kind
untouched_fits doing text says (Talk job) u = Leaves (u.parts (Talk job)) u.leaves
untouched_fits doing text says (Gain by size key) u = tt
untouched_fits doing text says (Fault call by) u = tt
untouched_fits doing text says kind u = u.parts kind

right_fits : (h : Here) (key : List ℕ) (size : ℕ) (text : List ℕ) (right : Bool) → message_of text ≡ Some Valid → ReplyFits (Took key size) (Line text) (valid_answer (by_of h) size key right)
right_fits h key size text true told = tt
right_fits h key size text false told = Refuses key size text refl refl refl told refl

valid_fits : (h : Here) (v : ℕ) (doing : Doing) (text : List ℕ) → message_of text ≡ Some Valid → ReplyFits doing (Line text) (on_message h v doing Valid)
valid_fits h v (Took key size) text told =
    tries_fits h (Took key size) (Line text) (to_commit h.right) failure_line (valid_answer (by_of h) size key h.right) (right_fits h key size text h.right told)
valid_fits h v doing text told = λ bytes known. refl

text_fits : (h : Here) (was : Session) (text : List ℕ) (o : Option Message) → message_of text ≡ o → ReplyFits was.doing (Line text) (on_text h was o)
text_fits h was text (Some Valid) told = valid_fits h was.version was.doing text told
text_fits h was text o told = let x = on_text h was o in untouched_fits was.doing text x.says x.kind (untouched was.doing text (ap is_valid told))

-- ---- a frame

bytes_fits : (h : Here) (n : ℕ) (doing : Doing) → ReplyFits doing (Bytes n) (on_bytes h n doing)
bytes_fits h n (Takes key size left) =
    if_either (ReplyFits (Takes key size left) (Bytes n)) (nat_lt 0 n && nat_le n left) (tries h (calls.Append ∷ []) (Closing ∷ []) (silent_reply (Talk None))) (unexpected_reply h)
    (λ e. tries_fits h (Takes key size left) (Bytes n) (calls.Append ∷ []) (Closing ∷ []) (silent_reply (Talk None)) (Appends key size left n refl refl refl refl))
    (λ e. λ bytes known. refl)
bytes_fits h n doing = λ bytes known. refl

opening_stays : (doing : Doing) (kind : EntryKind) → Stays doing Opening kind
opening_stays (Takes key size left) kind = λ bytes known. refl
opening_stays (Took key size) kind = λ bytes known. refl
opening_stays doing kind = λ bytes known. refl

closing_stays : (doing : Doing) (kind : EntryKind) → Stays doing Closing kind
closing_stays (Takes key size left) kind = λ bytes known. refl
closing_stays (Took key size) kind = λ bytes known. refl
closing_stays doing kind = λ bytes known. refl

pub frame_fits : (h : Here) (was : Session) (body : FrameText) → ReplyFits was.doing body (on_frame h was body)
frame_fits h was Opening = Leaves (opening_stays was.doing (Talk None)) (λ sent r key bytes d. refl)
frame_fits h was Closing = closing_stays was.doing (Close h.at.peer h.at.slot false)
frame_fits h was (Bytes n) = bytes_fits h n was.doing
frame_fits h was (Line text) = text_fits h was text (message_of text) refl
