-- What a session found, by the kind of the entry that it makes.
use Rattle.node_model.specs.Clocks.{hold_time}
use Rattle.std.proofs.Common.{◌≡◌, ℕ, ◌+◌, ◌*◌, ◌/◌, Bool, true, false, List, [], ◌∷◌, Option, Some, None, ◌⊎◌, inl, inr, refl, ap, subst}
use Rattle.std.specs.Prelude.{if◌then◌else◌, ◌==◌, ◌&&◌, min, nat_lt, nat_le, bytes_eq, codes}
use Rattle.std.specs.Cmp.Lexicographic.{bytes_decides}
use Rattle.std.proofs.lemmas.Bool.{and_parts}
use Rattle.annex_base.specs.declared.kinds.Call.{Call}
use Rattle.annex_base.proofs.Lists.{find_member}
use Rattle.annex_base.proofs.Conditions.{if_either}
use Rattle.annex_base.specs.declared.kinds.Call.TheVariants as calls
use Rattle.annex_base.proofs.Options.{first_some-was}
use Rattle.run_data.specs.declared.entry.EntryKind.TheVariants.{Release, Talk, Fault}
use Rattle.run_data.specs.declared.entry.FrameView.{FrameView}
use Rattle.run_data.specs.declared.entry.FrameText.{FrameText}
use Rattle.run_data.specs.declared.entry.FrameText.TheVariants.{Opening, Closing, Bytes, Line}
use Rattle.node_model.specs.State.{State}
use Rattle.node_model.specs.SetUp.{SetUp, served_connections}
use Rattle.p2p_wire.specs.declared.message.Message.{Message}
use Rattle.p2p_wire.specs.declared.message.Message.TheVariants.{AuthSuccess, Version, CheckPresent, LockContent, UnlockContent, Remove, RemoveBefore, GetTimestamp, Timestamp, Get, Put, PutFrom, AlreadyHave, Data, Valid, Invalid, Success, Failure, Error}
use Rattle.p2p_wire.specs.Messages.{order_of, message_of}
use Rattle.node_model.specs.Sessions.{Doing, Waits, Guards, Gives, Gave, Wants, Takes, Took, Session, line_in, reaches}
use Rattle.node_model.specs.Calls.{to_commit, to_lock, to_offer, to_remove}
use Rattle.node_model.specs.Ends.{End, EndName, end_takes, may_take, server_end, takes_at}
use Rattle.node_model.specs.Look.{Look, Effect, failing_call, waiting_frame}
use Rattle.node_model.specs.SessionStep.{Here, Reply, bar_on, by_of, bytes_left, check_answer, close_kind, content_of, gives_made, gives_next, here, is_held, is_here, lock_answer, now_of, on_bytes, on_frame, on_message, on_piece, on_put, on_remove, on_remove_before, on_request, on_text, on_unlock, put_answer, failure_line, remove_answer, reply, reply_made, session_at, session_makes, session_step, shuts, silent_reply, tries, unexpected_reply, valid_answer}
use Rattle.node_model.specs.Found.{BySession, GivesAt, IsBeforeDeadline, SaysFault, SessionFound, IsSessionEntry, TakesAt}
use Rattle.step_facts.proofs.Cases.{TakesAtHand, takes_none, takes_one, unless_found}

tries_found : (h : Here) (doing : Doing) (asked : Option Message) (cs : List Call) (says : List FrameText) (good : Reply)
    → SaysFault says → SessionFound h doing asked good → SessionFound h doing asked (tries h cs says good)
tries_found h doing asked cs says good fs g =
    unless_found (SessionFound h doing asked) (failing_call h.fails cs) (λ call. record { kind = Fault call (by_of h); says = says; calls = [] }) good (λ call. (refl, fs)) g

refused : SaysFault failure_line
refused = inr (inr refl)

unexpected_found : (h : Here) (doing : Doing) (asked : Option Message) → SessionFound h doing asked (unexpected_reply h)
unexpected_found h doing asked = (refl, (codes "unexpected", refl))

shut_found : (h : Here) (doing : Doing) (asked : Option Message) → SessionFound h doing asked (shuts (close_kind h))
shut_found h doing asked = (refl, tt)

check_found : (h : Here) (key : List ℕ) (here : Bool) (bar : Option ℕ) → is_here h key ≡ here → bar_on h key ≡ bar
    → SessionFound h Waits (Some (CheckPresent key)) (check_answer key here bar)
check_found h key false bar there free = (refl, inl (inr refl), there, inl refl)
check_found h key true (Some j) there free = (refl, inl (inr refl), (j, free), refl)
check_found h key true None there free = record { asks = refl; waits = refl; there = there; free = free; says_is = refl }

lock_found : (h : Here) (key : List ℕ) (locks here : Bool) (bar : Option ℕ) → h.locks ≡ locks → is_here h key ≡ here → bar_on h key ≡ bar
    → SessionFound h Waits (Some (LockContent key)) (lock_answer h.number (now_of h + hold_time) (by_of h) key locks here bar)
lock_found h key false here bar locks there free = (refl, refl, locks, refl)
lock_found h key true false bar locks there free = (refl, inl (inl refl), there, inl refl)
lock_found h key true true (Some j) locks there free = (refl, inl (inl refl), (j, free), refl)
lock_found h key true true None locks there free =
    record { asks = refl; waits = refl; locks = locks; there = there; free = free; hold_is = refl; end_is = refl; by_is = refl; says_is = refl }

remove_found : (h : Here) (deadline : Option ℕ) (key : List ℕ) (here : Bool) (bar : Option ℕ) (blocked : Bool)
    → is_here h key ≡ here → bar_on h key ≡ bar → is_held h key ≡ blocked → IsBeforeDeadline (now_of h) deadline
    → SessionFound h Waits (Some (order_of deadline key)) (remove_answer (by_of h) key here bar blocked)
remove_found h deadline key false bar blocked there free unheld soon = (refl, inr (deadline, refl), there, inr (refl, (deadline, refl)))
remove_found h deadline key true (Some j) blocked there free unheld soon = (refl, inr (deadline, refl), (j, free), refl)
remove_found h deadline key true None true there free unheld soon = (refl, inr (deadline, refl), unheld, refl)
remove_found h deadline key true None false there free unheld soon =
    record { deadline = deadline; asks = refl; waits = refl; there = there; free = free; unheld = unheld; soon = soon; by_is = refl; says_is = refl }

on_remove_found : (h : Here) (deadline : Option ℕ) (key : List ℕ) → IsBeforeDeadline (now_of h) deadline → SessionFound h Waits (Some (order_of deadline key)) (on_remove h key)
on_remove_found h deadline key soon =
    tries_found h Waits (Some (order_of deadline key)) (to_remove (is_here h key) (bar_on h key) (is_held h key)) failure_line
    (remove_answer (by_of h) key (is_here h key) (bar_on h key) (is_held h key)) refused
    (remove_found h deadline key (is_here h key) (bar_on h key) (is_held h key) refl refl refl soon)

remove_before_found : (h : Here) (n : ℕ) (key : List ℕ) → SessionFound h Waits (Some (RemoveBefore n key)) (on_remove_before h n key)
remove_before_found h n key = go (nat_lt (now_of h) (1000 * n)) refl
  where
    go : (b : Bool) → nat_lt (now_of h) (1000 * n) ≡ b → SessionFound h Waits (Some (RemoveBefore n key)) (on_remove_before h n key)
    go true is = rw is (on_remove_found h (Some n) key is)
    go false is = rw is (refl, (n, refl, is), refl)

put_found : (h : Here) (file key : List ℕ) (here filled : Bool) → SessionFound h Waits (Some (Put file key)) (reply (Talk None) (put_answer h.part here filled))
put_found h file key true filled = (AlreadyHave, refl, tt)
put_found h file key false true = (Error (codes "busy"), refl, tt)
put_found h file key false false = (PutFrom h.part, refl, tt)

with_version : (h : Here) (asked : Option Message) (b : Bool) (x : Reply) → SessionFound h Waits asked x → SessionFound h Waits asked (if b then x else unexpected_reply h)
with_version h asked b x f = if_either (SessionFound h Waits asked) b x (unexpected_reply h) (λ e. f) (λ e. unexpected_found h Waits asked)

request_found : (h : Here) (v : ℕ) (m : Message) → SessionFound h Waits (Some m) (on_request h v m)
request_found h v (Version n) = (Version (min n h.version), refl, tt)
request_found h v (CheckPresent key) =
    tries_found h Waits (Some (CheckPresent key)) (calls.Has ∷ []) failure_line (check_answer key (is_here h key) (bar_on h key)) refused
    (check_found h key (is_here h key) (bar_on h key) refl refl)
request_found h v (LockContent key) =
    let locks = h.locks in
    tries_found h Waits (Some (LockContent key)) (to_lock locks (is_here h key) (bar_on h key)) failure_line
    (lock_answer h.number (now_of h + hold_time) (by_of h) key locks (is_here h key) (bar_on h key)) refused
    (lock_found h key locks (is_here h key) (bar_on h key) refl refl refl)
request_found h v (Remove key) = on_remove_found h None key tt
request_found h v (RemoveBefore n key) = with_version h (Some (RemoveBefore n key)) (nat_le 3 v) (on_remove_before h n key) (remove_before_found h n key)
request_found h v GetTimestamp =
    with_version h (Some GetTimestamp) (nat_le 3 v) (reply (Talk None) (Timestamp (now_of h / 1000))) (Timestamp (now_of h / 1000), refl, refl)
request_found h v (Get n file key) =
    let good = reply (Talk None) (Data (bytes_left (content_of h key) n)) in
    with_version h (Some (Get n file key)) (nat_le 1 v) (tries h (calls.Size ∷ []) (Closing ∷ []) good)
    (tries_found h Waits (Some (Get n file key)) (calls.Size ∷ []) (Closing ∷ []) good (inr (inl refl)) (Data (bytes_left (content_of h key) n), refl, tt))
request_found h v (Put file key) =
    let here = is_here h key in let filled = h.filled key in
    with_version h (Some (Put file key)) (nat_le 1 v) (on_put h key)
    (tries_found h Waits (Some (Put file key)) (to_offer h.part here filled) failure_line (reply (Talk None) (put_answer h.part here filled)) refused
    (put_found h file key here filled))
request_found h v m = unexpected_found h Waits (Some m)

valid_found : (h : Here) (key : List ℕ) (size : ℕ) (right : Bool) → h.right ≡ right → SessionFound h (Took key size) (Some Valid) (valid_answer (by_of h) size key right)
valid_found h key size true is = record { asks = refl; took = refl; right = is; by_is = refl; says_is = refl }
valid_found h key size false is = (Failure, refl, tt)

unlock_found : (h : Here) (hold : ℕ) (key k : List ℕ) → SessionFound h (Guards hold key) (Some (UnlockContent k)) (on_unlock h hold key k)
unlock_found h hold key k =
    if_either (SessionFound h (Guards hold key) (Some (UnlockContent k))) (bytes_eq k key) (tries h (calls.Unhold ∷ []) [] (silent_reply (Release hold key))) (unexpected_reply h)
    (λ e. tries_found h (Guards hold key) (Some (UnlockContent k)) (calls.Unhold ∷ []) [] (silent_reply (Release hold key)) (inl refl)
    (record { asks = ap (λ x. Some (UnlockContent x)) ((bytes_decides k key).0 e); guards = refl; says_is = refl }))
    (λ e. unexpected_found h (Guards hold key) (Some (UnlockContent k)))

message_found : (h : Here) (v : ℕ) (doing : Doing) (m : Message) → SessionFound h doing (Some m) (on_message h v doing m)
message_found h v doing (Error text) = shut_found h doing (Some (Error text))
message_found h v Waits m = request_found h v m
message_found h v (Guards hold key) (UnlockContent k) = unlock_found h hold key k
message_found h v Gave Success = tt
message_found h v Gave Failure = tt
message_found h v (Wants key size) (Data n) = tt
message_found h v (Took key size) Valid =
    tries_found h (Took key size) (Some Valid) (to_commit h.right) failure_line (valid_answer (by_of h) size key h.right) refused (valid_found h key size h.right refl)
message_found h v (Took key size) Invalid = (Failure, refl, tt)
message_found h v doing m = unexpected_found h doing (Some m)

bytes_found : (h : Here) (n : ℕ) (doing : Doing) → SessionFound h doing None (on_bytes h n doing)
bytes_found h n (Takes key size left) =
    if_either (SessionFound h (Takes key size left) None) (nat_lt 0 n && nat_le n left) (tries h (calls.Append ∷ []) (Closing ∷ []) (silent_reply (Talk None))) (unexpected_reply h)
    (λ e. tries_found h (Takes key size left) None (calls.Append ∷ []) (Closing ∷ []) (silent_reply (Talk None)) (inr (inl refl)) tt)
    (λ e. unexpected_found h (Takes key size left) None)
bytes_found h n doing = unexpected_found h doing None

text_found : (h : Here) (was : Session) (m : Option Message) → SessionFound h was.doing m (on_text h was m)
text_found h was None = unexpected_found h was.doing None
text_found h was (Some m) = message_found h was.version was.doing m

pub frame_found : (h : Here) (was : Session) (body : FrameText) → SessionFound h was.doing (line_in body) (on_frame h was body)
frame_found h was Opening = (AuthSuccess h.id, refl, tt)
frame_found h was Closing = (refl, tt)
frame_found h was (Bytes n) = bytes_found h n was.doing
frame_found h was (Line text) = text_found h was (message_of text)

piece_found : (h : Here) (doing : Doing) (key : List ℕ) (at n : ℕ) → SessionFound h doing None (on_piece h key at n)
piece_found h doing key at n =
    let good = if reaches (content_of h key) (at + n) then record { kind = Talk None; says = Bytes n ∷ []; calls = [] } else shuts (close_kind h) in
    tries_found h doing None (calls.Read ∷ []) (Closing ∷ []) good (inr (inl refl))
    (if_either (SessionFound h doing None) (reaches (content_of h key) (at + n)) (record { kind = Talk None; says = Bytes n ∷ []; calls = [] }) (shuts (close_kind h))
    (λ e. tt) (λ e. shut_found h doing None))

word_found : (h : Here) (doing : Doing) (good : Bool) → SessionFound h doing None (reply (Talk None) (if good then Valid else Invalid))
word_found h doing true = (Valid, refl, tt)
word_found h doing false = (Invalid, refl, tt)

pub gives_found : (h : Here) (doing : Doing) (x : Reply) → gives_next h doing ≡ Some x → SessionFound h doing None x
gives_found h (Gives key at left good) x e =
    let y = if left == 0 then reply (Talk None) (if good then Valid else Invalid) else on_piece h key at (min 32768 left) in
    let same : y ≡ x = cc in
    subst (SessionFound h (Gives key at left good) None) same
    (if_either (SessionFound h (Gives key at left good) None) (left == 0) (reply (Talk None) (if good then Valid else Invalid)) (on_piece h key at (min 32768 left))
    (λ f. word_found h (Gives key at left good) good) (λ f. piece_found h (Gives key at left good) key at (min 32768 left)))
gives_found h doing x e = absurd (cc)

-- ---- the step

-- what a session makes at an end
record MadeAt (s : SetUp) (st : State) (k : Look) (a : EndName) (m : Effect) : Type 0 where
  asked : Option Message
  says : List FrameText
  frame : TakesAt s st a asked says m ⊎ GivesAt s st a asked says m
  found : IsSessionEntry (here s st k a) (st.sessions a).doing asked says m.kind
  at_hand : TakesAtHand k m

makes_found : (s : SetUp) (st : State) (k : Look) (a : EndName) (f : Option FrameView) (m : Effect) → waiting_frame (st.ends a) k a ≡ f
    → session_makes (here s st k a) (st.ends a) (st.sessions a) f ≡ Some m → MadeAt s st k a m
makes_found s st k a (Some f) m is e =
    let h = here s st k a in
    let x = on_frame h (st.sessions a) f.body in
    let same : reply_made a (end_takes (st.ends a) f.epoch f.body) (Some f) x ≡ m = cc in
    let was = find_member (λ g. takes_at a g && may_take (st.ends a) g) k.at_hand f is in
    let both = and_parts (takes_at a f) (may_take (st.ends a) f) was.1 in
    subst (MadeAt s st k a) same (record {
      asked = line_in f.body;
      says = x.says;
      frame = inl (record { f = f; taken_is = refl; of_end = both.0; may = both.1; asked_is = refl; sent_is = refl });
      found = frame_found h (st.sessions a) f.body;
      at_hand = takes_one k (reply_made a (end_takes (st.ends a) f.epoch f.body) (Some f) x) f refl was.0;
    })
makes_found s st k a None m is e = go (st.ends a).opened refl e
  where
    h : Here
    h = here s st k a

    c : End
    c = st.ends a

    given : c.opened ≡ true → (o : Option Reply) → gives_next h (st.sessions a).doing ≡ o → gives_made a c o ≡ Some m → MadeAt s st k a m
    given opened None next g = absurd (cc)
    given opened (Some x) next g =
        let same : reply_made a c None x ≡ m = cc in
        subst (MadeAt s st k a) same (record {
          asked = None;
          says = x.says;
          frame = inr (record { taken_is = refl; opened = opened; asked_is = refl; sent_is = refl });
          found = gives_found h (st.sessions a).doing x next;
          at_hand = takes_none k (reply_made a c None x) refl;
        })

    go : (b : Bool) → c.opened ≡ b → (if b then gives_made a c (gives_next h (st.sessions a).doing) else None) ≡ Some m → MadeAt s st k a m
    go true opened g = given opened (gives_next h (st.sessions a).doing) refl g
    go false opened g = absurd (cc)

at_found : (s : SetUp) (st : State) (k : Look) (a : EndName) (m : Effect) → session_at s st k a ≡ Some m → MadeAt s st k a m
at_found s st k a m e = go (k.room a) e
  where
    go : (b : Bool) → (if b then session_makes (here s st k a) (st.ends a) (st.sessions a) (waiting_frame (st.ends a) k a) else None) ≡ Some m → MadeAt s st k a m
    go true g = makes_found s st k a (waiting_frame (st.ends a) k a) m refl g
    go false g = absurd (cc)

pub session_found : (s : SetUp) (st : State) (k : Look) (m : Effect) → session_step s st k ≡ Some m → BySession s st k m
session_found s st k m e =
    let w = first_some-was (λ (c : ℕ × ℕ). session_at s st k (server_end c.0 c.1)) (served_connections s) m e in
    let c = w.0 in
    let x = at_found s st k (server_end c.0 c.1) m w.2 in
    record { peer = c.0; slot = c.1; serves = w.1; asked = x.asked; says = x.says; frame = x.frame; found = x.found }

pub session_at_hand : (s : SetUp) (st : State) (k : Look) (m : Effect) → session_step s st k ≡ Some m → TakesAtHand k m
session_at_hand s st k m e =
    let w = first_some-was (λ (c : ℕ × ℕ). session_at s st k (server_end c.0 c.1)) (served_connections s) m e in
    (at_found s st k (server_end w.0.0 w.0.1) m w.2).at_hand
