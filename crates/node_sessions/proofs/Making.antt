-- The kinds of the entries that a session makes.
use Rattle.std.proofs.Common.{◌≡◌, ◌≢◌, ℕ, ◌+◌, ◌*◌, ◌/◌, Bool, true, false, List, [], ◌∷◌, Option, Some, None, refl, sym, ap, subst, ◌∙◌, true≢false}
use Rattle.std.specs.Prelude.{◌&&◌, ◌==◌, if◌then◌else◌, bytes_eq, min, nat_le, nat_lt}
use Rattle.std.specs.List.{list_any}
use Rattle.std.specs.Option.{option_or}
use Rattle.annex_base.specs.declared.kinds.Call.{Call}
use Rattle.annex_base.specs.declared.kinds.Call.TheVariants as calls
use Rattle.annex_base.specs.Calls.{same_call}
use Rattle.annex_base.proofs.Conditions.{if_either}
use Rattle.annex_base.specs.OptionSteps.{first_some}
use Rattle.run_data.specs.declared.entry.EntryKind.TheVariants.{Fault, Release, Talk}
use Rattle.run_data.specs.declared.entry.FrameText.{FrameText}
use Rattle.run_data.specs.declared.entry.FrameText.TheVariants.{Opening, Closing, Bytes, Line}
use Rattle.run_data.specs.declared.entry.FrameView.{FrameView}
use Rattle.p2p_wire.specs.declared.message.Message.{Message}
use Rattle.p2p_wire.specs.declared.message.Message.TheVariants as messages
use Rattle.p2p_wire.specs.Messages.{message_of}
use Rattle.node_model.specs.Calls.{to_commit, to_hold, to_lock, to_offer, to_read, to_remove}
use Rattle.node_model.specs.Clocks.{hold_time}
use Rattle.node_model.specs.Ends.{End, EndName, end_takes, server_end}
use Rattle.node_model.specs.Look.{Look, Effect, failing_call, unless, waiting_frame}
use Rattle.node_model.specs.Sessions as sessions
use Rattle.node_model.specs.Sessions.{reaches}
use Rattle.node_model.specs.SessionStep.{Here, Reply, bar_on, by_of, bytes_left, check_answer, close_kind, content_of, gives_made, gives_next, here, is_held, is_here, lock_answer, now_of, on_bytes, on_frame, on_message, on_piece, on_put, on_remove, on_remove_before, on_request, on_text, on_unlock, on_valid, put_answer, failure_line, remove_answer, reply, reply_made, session_at, session_makes, session_step, shuts, silent_reply, tries, unexpected_reply, valid_answer}
use Rattle.node_model.specs.SetUp.{SetUp, served_connections}
use Rattle.node_model.specs.State.{State}
use Rattle.node_sessions.specs.Kinds.{IsOfSession}

abbrev Own : Reply → Type 0
Own x = IsOfSession x.kind

-- ---- the call that fails

abbrev puts : List Call → Bool
puts cs = list_any (same_call calls.PutFile) cs

other_call : (fails : Option Call) (cs : List Call) (call : Call) → puts cs ≡ false → failing_call fails cs ≡ Some call → call ≢ calls.PutFile
other_call None cs call none e = absurd cc
other_call (Some c) cs call none e = go (list_any (same_call c) cs) refl e
  where
    go : (b : Bool) → list_any (same_call c) cs ≡ b → (if b then Some c else None) ≡ Some call → call ≢ calls.PutFile
    go true is f = λ put.
        let same : c ≡ call = cc in true≢false (sym is ∙ ap (λ (x : Call). list_any (same_call x) cs) (same ∙ put) ∙ none)
    go false is f = absurd cc

tries_own : (h : Here) (cs : List Call) (says : List FrameText) (good : Reply) → puts cs ≡ false → Own good → Own (tries h cs says good)
tries_own h cs says good none own = go (failing_call h.fails cs) refl
  where
    go : (o : Option Call) → failing_call h.fails cs ≡ o → Own (unless o (λ call. record { kind = Fault call (by_of h); says = says; calls = [] }) good)
    go None is = own
    go (Some call) is = other_call h.fails cs call none is

no_hold : (here : Bool) (bar : Option ℕ) → puts (to_hold here bar) ≡ false
no_hold true None = refl
no_hold true (Some j) = refl
no_hold false bar = refl

no_lock : (locks here : Bool) (bar : Option ℕ) → puts (to_lock locks here bar) ≡ false
no_lock true here bar = no_hold here bar
no_lock false here bar = refl

no_remove : (here : Bool) (bar : Option ℕ) (blocked : Bool) → puts (to_remove here bar blocked) ≡ false
no_remove true None true = refl
no_remove true None false = refl
no_remove true (Some j) blocked = refl
no_remove false bar blocked = refl

no_read : (b : Bool) → puts (to_read b) ≡ false
no_read true = refl
no_read false = refl

no_offer : (part : ℕ) (here filled : Bool) → puts (to_offer part here filled) ≡ false
no_offer part true filled = refl
no_offer part false true = refl
no_offer part false false = no_read (nat_lt 0 part)

no_commit : (right : Bool) → puts (to_commit right) ≡ false
no_commit true = refl
no_commit false = refl

-- ---- the answers

check_own : (key : List ℕ) (here : Bool) (bar : Option ℕ) → Own (check_answer key here bar)
check_own key false bar = tt
check_own key true (Some j) = tt
check_own key true None = tt

lock_own : (h : Here) (key : List ℕ) (locks here : Bool) (bar : Option ℕ) → Own (lock_answer h.number (now_of h + hold_time) (by_of h) key locks here bar)
lock_own h key false here bar = tt
lock_own h key true false bar = tt
lock_own h key true true (Some j) = tt
lock_own h key true true None = tt

removal_own : (h : Here) (key : List ℕ) (here : Bool) (bar : Option ℕ) (blocked : Bool) → Own (remove_answer (by_of h) key here bar blocked)
removal_own h key false bar blocked = tt
removal_own h key true (Some j) blocked = tt
removal_own h key true None true = tt
removal_own h key true None false = tt

verdict_own : (h : Here) (size : ℕ) (key : List ℕ) (right : Bool) → Own (valid_answer (by_of h) size key right)
verdict_own h size key true = tt
verdict_own h size key false = tt

remove_own : (h : Here) (key : List ℕ) → Own (on_remove h key)
remove_own h key =
    tries_own h (to_remove (is_here h key) (bar_on h key) (is_held h key)) failure_line (remove_answer (by_of h) key (is_here h key) (bar_on h key) (is_held h key))
    (no_remove (is_here h key) (bar_on h key) (is_held h key)) (removal_own h key (is_here h key) (bar_on h key) (is_held h key))

-- what has a condition is its own where both sides are
or_closes : (h : Here) (b : Bool) (x : Reply) → Own x → Own (if b then x else unexpected_reply h)
or_closes h b x own = if_either Own b x (unexpected_reply h) (λ e. own) (λ e. tt)

before_own : (h : Here) (n : ℕ) (key : List ℕ) (b : Bool) (late : Reply) → Own late → Own (if b then on_remove h key else late)
before_own h n key b late own = if_either Own b (on_remove h key) late (λ e. remove_own h key) (λ e. own)

put_own : (h : Here) (key : List ℕ) → Own (on_put h key)
put_own h key =
    tries_own h (to_offer h.part (is_here h key) (h.filled key)) failure_line (reply (Talk None) (put_answer h.part (is_here h key) (h.filled key)))
    (no_offer h.part (is_here h key) (h.filled key)) tt

request_own : (h : Here) (v : ℕ) (m : Message) → Own (on_request h v m)
request_own h v (messages.Version n) = tt
request_own h v (messages.CheckPresent key) =
    tries_own h (calls.Has ∷ []) failure_line (check_answer key (is_here h key) (bar_on h key)) refl (check_own key (is_here h key) (bar_on h key))
request_own h v (messages.LockContent key) =
    tries_own h (to_lock h.locks (is_here h key) (bar_on h key)) failure_line (lock_answer h.number (now_of h + hold_time) (by_of h) key h.locks (is_here h key) (bar_on h key))
    (no_lock h.locks (is_here h key) (bar_on h key)) (lock_own h key h.locks (is_here h key) (bar_on h key))
request_own h v (messages.Remove key) = remove_own h key
request_own h v (messages.RemoveBefore n key) =
    or_closes h (nat_le 3 v) (on_remove_before h n key) (before_own h n key (nat_lt (now_of h) (1000 * n)) _ tt)
request_own h v messages.GetTimestamp = or_closes h (nat_le 3 v) (reply (Talk None) (messages.Timestamp (now_of h / 1000))) tt
request_own h v (messages.Get n file key) =
    let good = reply (Talk None) (messages.Data (bytes_left (content_of h key) n)) in
    or_closes h (nat_le 1 v) (tries h (calls.Size ∷ []) (Closing ∷ []) good) (tries_own h (calls.Size ∷ []) (Closing ∷ []) good refl tt)
request_own h v (messages.Put file key) = or_closes h (nat_le 1 v) (on_put h key) (put_own h key)
request_own h v m = tt

unlock_own : (h : Here) (hold : ℕ) (key k : List ℕ) → Own (on_unlock h hold key k)
unlock_own h hold key k =
    or_closes h (bytes_eq k key) (tries h (calls.Unhold ∷ []) [] (silent_reply (Release hold key))) (tries_own h (calls.Unhold ∷ []) [] (silent_reply (Release hold key)) refl tt)

valid_own : (h : Here) (key : List ℕ) (size : ℕ) → Own (on_valid h key size)
valid_own h key size = tries_own h (to_commit h.right) failure_line (valid_answer (by_of h) size key h.right) (no_commit h.right) (verdict_own h size key h.right)

message_own : (h : Here) (v : ℕ) (doing : sessions.Doing) (m : Message) → Own (on_message h v doing m)
message_own h v doing (messages.Error text) = tt
message_own h v sessions.Waits m = request_own h v m
message_own h v (sessions.Guards hold key) (messages.UnlockContent k) = unlock_own h hold key k
message_own h v sessions.Gave messages.Success = tt
message_own h v sessions.Gave messages.Failure = tt
message_own h v (sessions.Wants key size) (messages.Data n) = tt
message_own h v (sessions.Took key size) messages.Valid = valid_own h key size
message_own h v (sessions.Took key size) messages.Invalid = tt
message_own h v doing m = tt

bytes_own : (h : Here) (n : ℕ) (doing : sessions.Doing) → Own (on_bytes h n doing)
bytes_own h n (sessions.Takes key size left) =
    or_closes h (nat_lt 0 n && nat_le n left) (tries h (calls.Append ∷ []) (Closing ∷ []) (silent_reply (Talk None)))
    (tries_own h (calls.Append ∷ []) (Closing ∷ []) (silent_reply (Talk None)) refl tt)
bytes_own h n doing = tt

text_own : (h : Here) (was : sessions.Session) (o : Option Message) → Own (on_text h was o)
text_own h was None = tt
text_own h was (Some m) = message_own h was.version was.doing m

frame_own : (h : Here) (was : sessions.Session) (body : FrameText) → Own (on_frame h was body)
frame_own h was Opening = tt
frame_own h was Closing = tt
frame_own h was (Bytes n) = bytes_own h n was.doing
frame_own h was (Line text) = text_own h was (message_of text)

-- ---- what is given

piece_own : (h : Here) (key : List ℕ) (at n : ℕ) → Own (on_piece h key at n)
piece_own h key at n =
    let good = if reaches (content_of h key) (at + n) then record { kind = Talk None; says = Bytes n ∷ []; calls = [] } else shuts (close_kind h) in
    tries_own h (calls.Read ∷ []) (Closing ∷ []) good refl
    (if_either Own (reaches (content_of h key) (at + n)) (record { kind = Talk None; says = Bytes n ∷ []; calls = [] }) (shuts (close_kind h)) (λ e. tt) (λ e. tt))

gives_own : (h : Here) (doing : sessions.Doing) (x : Reply) → gives_next h doing ≡ Some x → Own x
gives_own h (sessions.Gives key at left good) x e =
    let y = if left == 0 then reply (Talk None) (if good then messages.Valid else messages.Invalid) else on_piece h key at (min 32768 left) in
    let same : y ≡ x = cc in
    subst Own same
    (if_either Own (left == 0) (reply (Talk None) (if good then messages.Valid else messages.Invalid)) (on_piece h key at (min 32768 left)) (λ f. tt) (λ f. piece_own h key at (min 32768 left)))
gives_own h doing x e = absurd cc

-- ---- the step

abbrev IsOwn : Effect → Type 0
IsOwn m = IsOfSession m.kind × (m.lines ≡ [])

makes_own : (h : Here) (c : End) (was : sessions.Session) (o : Option FrameView) (m : Effect) → session_makes h c was o ≡ Some m → IsOwn m
makes_own h c was (Some f) m e =
    let same : reply_made h.at (end_takes c f.epoch f.body) (Some f) (on_frame h was f.body) ≡ m = cc in subst IsOwn same (frame_own h was f.body, refl)
makes_own h c was None m e = go c.opened e
  where
    given : (o : Option Reply) → gives_next h was.doing ≡ o → gives_made h.at c o ≡ Some m → IsOwn m
    given None next g = absurd cc
    given (Some x) next g =
        let same : reply_made h.at c None x ≡ m = cc in subst IsOwn same (gives_own h was.doing x next, refl)

    go : (b : Bool) → (if b then gives_made h.at c (gives_next h was.doing) else None) ≡ Some m → IsOwn m
    go true g = given (gives_next h was.doing) refl g
    go false g = absurd cc

at_own : (s : SetUp) (st : State) (k : Look) (a : EndName) (m : Effect) → session_at s st k a ≡ Some m → IsOwn m
at_own s st k a m e = go (k.room a) e
  where
    go : (b : Bool) → (if b then session_makes (here s st k a) (st.ends a) (st.sessions a) (waiting_frame (st.ends a) k a) else None) ≡ Some m → IsOwn m
    go true g = makes_own (here s st k a) (st.ends a) (st.sessions a) (waiting_frame (st.ends a) k a) m g
    go false g = absurd cc

first_own : (s : SetUp) (st : State) (k : Look) (cs : List (ℕ × ℕ)) (m : Effect) → first_some (λ c. session_at s st k (server_end c.0 c.1)) cs ≡ Some m → IsOwn m
first_own s st k [] m e = absurd cc
first_own s st k (c ∷ cs) m e = go (session_at s st k (server_end c.0 c.1)) refl (first_own s st k cs m) e
  where
    go : (o : Option Effect) → session_at s st k (server_end c.0 c.1) ≡ o → (first_some (λ c. session_at s st k (server_end c.0 c.1)) cs ≡ Some m → IsOwn m)
        → option_or o (first_some (λ c. session_at s st k (server_end c.0 c.1)) cs) ≡ Some m → IsOwn m
    go None is rest f = rest f
    go (Some x) is rest f =
        let same : x ≡ m = cc in at_own s st k (server_end c.0 c.1) m (is ∙ ap Some same)

pub step_own : (s : SetUp) (st : State) (k : Look) (m : Effect) → session_step s st k ≡ Some m → IsOfSession m.kind × (m.lines ≡ [])
step_own s st k m e = first_own s st k (served_connections s) m e
