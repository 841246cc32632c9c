-- The step of a session: its answer to a frame, and the next piece of a content that it gives (git-annex P2P protocol).
use Rattle.std.specs.Prelude.{ℕ, ◌+◌, ◌-◌, ◌*◌, ◌/◌, Bool, true, false, ◌&&◌, ◌||◌, if◌then◌else◌, ◌==◌, min, nat_lt, nat_le, List, [], ◌∷◌, Option, Some, None, bytes_eq, codes}
use Rattle.std.specs.List.{list_any}
use Rattle.annex_base.specs.declared.kinds.Call.{Call}
use Rattle.annex_base.specs.declared.kinds.Call.TheVariants as calls
use Rattle.annex_base.specs.declared.kinds.Found.TheVariants as found
use Rattle.annex_base.specs.OptionSteps.{first_some}
use Rattle.run_data.specs.declared.entry.EntryKind.{EntryKind}
use Rattle.run_data.specs.declared.entry.EntryKind.TheVariants.{Gain, Share, Release, Check, Gone, Talk, Close, Fault}
use Rattle.run_data.specs.declared.entry.By.{By}
use Rattle.run_data.specs.declared.entry.By.TheVariants.{Peer}
use Rattle.run_data.specs.declared.entry.FrameView.{FrameView}
use Rattle.run_data.specs.declared.entry.FrameText.{FrameText}
use Rattle.run_data.specs.declared.entry.FrameText.TheVariants.{Opening, Closing, Bytes, Line}
use Rattle.run_data.specs.Repos.{id_of}
use Rattle.run_data.specs.declared.row.Hold.{Hold}
use Rattle.node_model.specs.Rows.{is_blocked}
use Rattle.node_model.specs.SetUp.{SetUp, version_of, gives_locks, served_connections}
use Rattle.p2p_wire.specs.declared.message.Message.{Message}
use Rattle.p2p_wire.specs.declared.message.Message.TheVariants.{AuthSuccess, Version, CheckPresent, LockContent, UnlockContent, Remove, RemoveBefore, GetTimestamp, Timestamp, Get, Put, PutFrom, AlreadyHave, Data, Valid, Invalid, Success, Failure, Error}
use Rattle.p2p_wire.specs.Messages.{message_of, text_of}
use Rattle.node_model.specs.Ends.{EndName, End, end_takes, frames, server_end}
use Rattle.node_model.specs.Sessions.{Doing, Waits, Guards, Gives, Gave, Wants, Takes, Took, Session, is_filling, reaches}
use Rattle.node_model.specs.State.{State}
use Rattle.node_model.specs.Look.{Look, Effect, failing_call, unless, waiting_frame}
use Rattle.node_model.specs.Calls.{to_commit, to_lock, to_offer, to_remove}
use Rattle.node_model.specs.Clocks.{hold_time}

-- What the P2P protocol leaves open is own.

-- an entry, what is sent with it, and the store calls of the answer, in order, where none fails
pub record Reply : Type 0 where
  pub kind : EntryKind
  pub says : List FrameText
  pub calls : List Call

abbrev pub reply : EntryKind → Message → Reply
reply kind m = record { kind = kind; says = Line (text_of m) ∷ []; calls = [] }

abbrev pub silent_reply : EntryKind → Reply
silent_reply kind = record { kind = kind; says = []; calls = [] }

-- the connection is closed
abbrev pub shuts : EntryKind → Reply
shuts kind = record { kind = kind; says = Closing ∷ []; calls = [] }

-- ---- answers by the row

abbrev pub check_answer : List ℕ → Bool → Option ℕ → Reply
check_answer key false bar = reply (Check found.Absent key) Failure
check_answer key true (Some j) = reply (Check found.Barred key) Failure
check_answer key true None = reply (Check found.Present key) Success

abbrev pub lock_answer : ℕ → ℕ → By → List ℕ → Bool → Bool → Option ℕ → Reply
lock_answer hold end by key false here bar = reply (Check found.Nolock key) Failure
lock_answer hold end by key true false bar = reply (Check found.Absent key) Failure
lock_answer hold end by key true true (Some j) = reply (Check found.Barred key) Failure
lock_answer hold end by key true true None = reply (Share hold end by key) Success

abbrev pub remove_answer : By → List ℕ → Bool → Option ℕ → Bool → Reply
remove_answer by key false bar blocked = reply (Check found.Absent key) Success
remove_answer by key true (Some j) blocked = reply (Check found.Barred key) Failure
remove_answer by key true None true = reply (Check found.Held key) Failure
remove_answer by key true None false = reply (Gone by key) Success

-- how many bytes a GET from this place gives
abbrev pub bytes_left : Option ℕ → ℕ → ℕ
bytes_left None n = 0
bytes_left (Some size) n = size - n

abbrev pub put_answer : ℕ → Bool → Bool → Message
put_answer part true filled = AlreadyHave
put_answer part false true = Error (codes "busy")
put_answer part false false = PutFrom part

-- the bytes are there: they match the key, or don't
abbrev pub valid_answer : By → ℕ → List ℕ → Bool → Reply
valid_answer by size key true = reply (Gain by size key) Success
valid_answer by size key false = reply (Talk None) Failure

-- ---- one session

-- what a session reads
pub record Here : Type 0 where
  pub at : EndName
  pub id : List ℕ
  pub version : ℕ  -- the greatest that its repository speaks
  pub locks : Bool
  pub now : ℕ
  pub number : ℕ  -- of the entry that is to be made
  pub present : List ℕ → Bool
  pub bar : List ℕ → Option ℕ
  pub content : List ℕ → Option ℕ
  pub holds : List Hold
  pub filled : List ℕ → Bool
  pub fails : Option Call
  pub part : ℕ
  pub right : Bool

abbrev pub by_of : Here → By
by_of h = Peer h.at.peer h.at.slot

abbrev pub now_of : Here → ℕ
now_of h = h.now

abbrev pub is_here : Here → List ℕ → Bool
is_here h key = h.present key

abbrev pub bar_on : Here → List ℕ → Option ℕ
bar_on h key = h.bar key

abbrev pub is_held : Here → List ℕ → Bool
is_held h key = is_blocked h.holds key (now_of h)

abbrev pub content_of : Here → List ℕ → Option ℕ
content_of h key = h.content key

abbrev pub session_fills : State → List ℕ → EndName → Bool
session_fills st key a = (st.ends a).opened && is_filling key (st.sessions a).doing

-- a session or a get takes the bytes of the key
abbrev pub is_filled : SetUp → State → List ℕ → Bool
is_filled s st key =
    list_any (λ c. session_fills st key (server_end c.0 c.1)) (served_connections s) || list_any (λ w. w.fills && bytes_eq w.what.key key) st.works

-- a session of s at an end
abbrev pub here : SetUp → State → Look → EndName → Here
here s st k a =
    record {
      at = a;
      id = id_of s.repos s.number;
      version = version_of s;
      locks = gives_locks s;
      now = st.clock k.time;
      number = st.made + 1;
      present = st.present;
      bar = st.bar;
      content = st.content;
      holds = st.holds;
      filled = is_filled s st;
      fails = k.fails;
      part = k.part;
      right = k.right;
    }

abbrev pub close_kind : Here → EntryKind
close_kind h = Close h.at.peer h.at.slot false

-- anything that isn't expected
abbrev pub unexpected_reply : Here → Reply
unexpected_reply h = record { kind = close_kind h; says = Line (text_of (Error (codes "unexpected"))) ∷ Closing ∷ []; calls = [] }

-- one of these calls fails, and this is said; else the reply stands
abbrev pub tries : Here → List Call → List FrameText → Reply → Reply
tries h cs says good = record (unless (failing_call h.fails cs) (λ call. record { kind = Fault call (by_of h); says = says; calls = [] }) good) { calls = cs }

abbrev pub failure_line : List FrameText
failure_line = Line (text_of Failure) ∷ []

abbrev pub on_lock : Here → List ℕ → Reply
on_lock h key =
    let locks = h.locks in
    tries h (to_lock locks (is_here h key) (bar_on h key)) failure_line
    (lock_answer h.number (now_of h + hold_time) (by_of h) key locks (is_here h key) (bar_on h key))

abbrev pub on_remove : Here → List ℕ → Reply
on_remove h key =
    tries h (to_remove (is_here h key) (bar_on h key) (is_held h key)) failure_line
    (remove_answer (by_of h) key (is_here h key) (bar_on h key) (is_held h key))

abbrev pub on_remove_before : Here → ℕ → List ℕ → Reply
on_remove_before h n key = if nat_lt (now_of h) (1000 * n) then on_remove h key else reply (Check found.Late key) Failure

abbrev pub on_put : Here → List ℕ → Reply
on_put h key =
    tries h (to_offer h.part (is_here h key) (h.filled key)) failure_line
    (reply (Talk None) (put_answer h.part (is_here h key) (h.filled key)))

-- a request, of a session that waits for one and speaks this version
abbrev pub on_request : Here → ℕ → Message → Reply
on_request h v (Version n) = reply (Talk None) (Version (min n h.version))
on_request h v (CheckPresent key) = tries h (calls.Has ∷ []) failure_line (check_answer key (is_here h key) (bar_on h key))
on_request h v (LockContent key) = on_lock h key
on_request h v (Remove key) = on_remove h key
on_request h v (RemoveBefore n key) = if nat_le 3 v then on_remove_before h n key else unexpected_reply h
on_request h v GetTimestamp = if nat_le 3 v then reply (Talk None) (Timestamp (now_of h / 1000)) else unexpected_reply h
on_request h v (Get n file key) =
    if nat_le 1 v then tries h (calls.Size ∷ []) (Closing ∷ []) (reply (Talk None) (Data (bytes_left (content_of h key) n))) else unexpected_reply h
on_request h v (Put file key) = if nat_le 1 v then on_put h key else unexpected_reply h
on_request h v m = unexpected_reply h

-- a locked key is given back
abbrev pub on_unlock : Here → ℕ → List ℕ → List ℕ → Reply
on_unlock h hold key k =
    if bytes_eq k key then tries h (calls.Unhold ∷ []) [] (silent_reply (Release hold key)) else unexpected_reply h

abbrev pub on_valid : Here → List ℕ → ℕ → Reply
on_valid h key size = tries h (to_commit h.right) failure_line (valid_answer (by_of h) size key h.right)

abbrev pub on_message : Here → ℕ → Doing → Message → Reply
on_message h v doing (Error text) = shuts (close_kind h)
on_message h v Waits m = on_request h v m
on_message h v (Guards hold key) (UnlockContent k) = on_unlock h hold key k
on_message h v Gave Success = silent_reply (Talk None)
on_message h v Gave Failure = silent_reply (Talk None)
on_message h v (Wants key size) (Data n) = silent_reply (Talk None)
on_message h v (Took key size) Valid = on_valid h key size
on_message h v (Took key size) Invalid = reply (Talk None) Failure
on_message h v doing m = unexpected_reply h

-- a piece of a content, no longer than what is left
abbrev pub on_bytes : Here → ℕ → Doing → Reply
on_bytes h n (Takes key size left) =
    if nat_lt 0 n && nat_le n left then tries h (calls.Append ∷ []) (Closing ∷ []) (silent_reply (Talk None)) else unexpected_reply h
on_bytes h n doing = unexpected_reply h

abbrev pub on_text : Here → Session → Option Message → Reply
on_text h was None = unexpected_reply h
on_text h was (Some m) = on_message h was.version was.doing m

abbrev pub on_frame : Here → Session → FrameText → Reply
on_frame h was Opening = reply (Talk None) (AuthSuccess h.id)
on_frame h was Closing = silent_reply (close_kind h)
on_frame h was (Bytes n) = on_bytes h n was.doing
on_frame h was (Line text) = on_text h was (message_of text)

-- the next piece, and at the end whether they were good; a content that is gone closes the connection
abbrev pub on_piece : Here → List ℕ → ℕ → ℕ → Reply
on_piece h key at n =
    tries h (calls.Read ∷ []) (Closing ∷ [])
    (if reaches (content_of h key) (at + n) then record { kind = Talk None; says = Bytes n ∷ []; calls = [] } else shuts (close_kind h))

abbrev pub gives_next : Here → Doing → Option Reply
gives_next h (Gives key at left good) =
    Some (if left == 0 then reply (Talk None) (if good then Valid else Invalid) else on_piece h key at (min 32768 left))
gives_next h doing = None

-- ---- the step

abbrev pub reply_made : EndName → End → Option FrameView → Reply → Effect
reply_made a c taken x = record { kind = x.kind; taken = taken; sent = frames a c x.says; lines = []; calls = x.calls }

abbrev pub gives_made : EndName → End → Option Reply → Option Effect
gives_made a c None = None
gives_made a c (Some x) = Some (reply_made a c None x)

-- a frame that waits comes before the next piece; a closed end gives none
abbrev pub session_makes : Here → End → Session → Option FrameView → Option Effect
session_makes h c was (Some f) = Some (reply_made h.at (end_takes c f.epoch f.body) (Some f) (on_frame h was f.body))
session_makes h c was None = if c.opened then gives_made h.at c (gives_next h was.doing) else None

abbrev pub session_at : SetUp → State → Look → EndName → Option Effect
session_at s st k a =
    if k.room a then session_makes (here s st k a) (st.ends a) (st.sessions a) (waiting_frame (st.ends a) k a)
    else None

-- the first session, in order of client and slot, that has a step
abbrev pub session_step : SetUp → State → Look → Option Effect
session_step s st k = first_some (λ c. session_at s st k (server_end c.0 c.1)) (served_connections s)
