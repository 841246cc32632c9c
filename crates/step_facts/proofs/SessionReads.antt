-- Each line that a session says is read: so the answers that it counts are those that its client reads.
use Rattle.node_model.specs.Clocks.{hold_time}
use Rattle.std.proofs.Common.{◌≡◌, ℕ, ◌+◌, ◌*◌, ◌/◌, ◌<◌, ◌≤◌, ◌^◌, Bool, true, false, List, [], ◌∷◌, length, Option, Some, None, inl, inr, refl, ap, ◌∙◌, subst, arith}
use Rattle.std.specs.Prelude.{if◌then◌else◌, ◌==◌, ◌&&◌, bytes_eq, codes, min, nat_le, nat_lt}
use Rattle.std.specs.Str.{chars, is_utf8}
use Rattle.std.specs.Str.Lossy.{utf8_valid_len}
use Rattle.annex_base.specs.Lists.{Member}
use Rattle.annex_base.specs.declared.kinds.Call.{Call}
use Rattle.annex_base.proofs.Conditions.{if_either}
use Rattle.annex_base.specs.declared.kinds.Call.TheVariants as calls
use Rattle.step_facts.proofs.Below.{SentAreRead}
use Rattle.run_data.specs.declared.entry.Entry.{Entry}
use Rattle.run_data.specs.declared.entry.EntryKind.TheVariants.{Fault, Release, Talk}
use Rattle.run_data.specs.declared.entry.By.{By}
use Rattle.run_data.specs.declared.entry.FrameText.{FrameText}
use Rattle.run_data.specs.declared.entry.FrameText.TheVariants.{Opening, Closing, Bytes, Line}
use Rattle.run_data.specs.Repos.{id_of}
use Rattle.p2p_wire.specs.declared.message.Message.{Message}
use Rattle.p2p_wire.specs.declared.message.Message.TheVariants.{AuthSuccess, Version, CheckPresent, LockContent, UnlockContent, Remove, RemoveBefore, GetTimestamp, Timestamp, Get, Put, PutFrom, AlreadyHave, Data, Valid, Invalid, Success, Failure, Error}
use Rattle.p2p_wire.specs.Messages.{message_of, text_of}
use Rattle.node_model.specs.SetUp.{SetUp, gives_locks, version_of}
use Rattle.node_model.specs.Ends.{EndName}
use Rattle.node_model.specs.Sessions.{Doing, Waits, Guards, Gives, Gave, Wants, Takes, Took, Session, reaches}
use Rattle.run_model.specs.States.{state_of}
use Rattle.node_model.specs.Look.{Look, failing_call}
use Rattle.node_model.specs.Calls.{to_commit, to_lock, to_offer, to_remove}
use Rattle.node_model.specs.SessionStep.{Here, Reply, bar_on, by_of, bytes_left, check_answer, close_kind, content_of, gives_next, here, is_filled, is_held, is_here, lock_answer, now_of, on_bytes, on_frame, on_lock, on_message, on_piece, on_put, on_remove, on_remove_before, on_request, on_text, on_unlock, on_valid, put_answer, failure_line, remove_answer, reply, shuts, silent_reply, tries, unexpected_reply, valid_answer}
use Rattle.run_model.specs.Run.{OwnPast}
use Rattle.step_facts.proofs.Cases.{unless_found}
use Rattle.step_facts.proofs.Spoken.{auth_read, data_read, part_read, time_read, version_read}

-- each line among these is read
abbrev pub SaysRead : List FrameText → Type 0
SaysRead says = (text : List ℕ) → Member (Line text) says → (m : Message) × (message_of text ≡ Some m)

one_read : (m : Message) → message_of (text_of m) ≡ Some m → SaysRead (Line (text_of m) ∷ [])
one_read m h text (inl same) = let is : text ≡ text_of m = cc in (m, ap message_of is ∙ h)
one_read m h text (inr none) = absurd none

no_read : SaysRead []
no_read text none = absurd none

close_read : SaysRead (Closing ∷ [])
close_read text (inl same) = absurd (cc)
close_read text (inr none) = absurd none

bytes_read : (n : ℕ) → SaysRead (Bytes n ∷ [])
bytes_read n text (inl same) = absurd (cc)
bytes_read n text (inr none) = absurd none

plain : is_utf8 (codes "unexpected") ≡ true
unfolding is_utf8 utf8_valid_len chars lib.Utf8.encode
plain = refl

busy : is_utf8 (codes "busy") ≡ true
unfolding is_utf8 utf8_valid_len chars lib.Utf8.encode
busy = refl

pub unexpected_read : SentAreRead → message_of (text_of (Error (codes "unexpected"))) ≡ Some (Error (codes "unexpected"))
unexpected_read reads_back = reads_back (Error (codes "unexpected")) plain (omega arith)

pub busy_read : SentAreRead → message_of (text_of (Error (codes "busy"))) ≡ Some (Error (codes "busy"))
busy_read reads_back = reads_back (Error (codes "busy")) busy (omega arith)

odd_read : SentAreRead → SaysRead (Line (text_of (Error (codes "unexpected"))) ∷ Closing ∷ [])
odd_read reads_back text (inl same) = let is : text ≡ text_of (Error (codes "unexpected")) = cc in (Error (codes "unexpected"), ap message_of is ∙ unexpected_read reads_back)
odd_read reads_back text (inr more) = close_read text more

abbrev Read : Reply → Type 0
Read x = SaysRead x.says

refuses_read : SaysRead failure_line
refuses_read = one_read Failure refl

check_read : (key : List ℕ) (here : Bool) (bar : Option ℕ) → Read (check_answer key here bar)
check_read key false bar = one_read Failure refl
check_read key true (Some j) = one_read Failure refl
check_read key true None = one_read Success refl

lock_read : (hold end : ℕ) (by : By) (key : List ℕ) (locks here : Bool) (bar : Option ℕ) → Read (lock_answer hold end by key locks here bar)
lock_read hold end by key false here bar = one_read Failure refl
lock_read hold end by key true false bar = one_read Failure refl
lock_read hold end by key true true (Some j) = one_read Failure refl
lock_read hold end by key true true None = one_read Success refl

remove_read : (by : By) (key : List ℕ) (here : Bool) (bar : Option ℕ) (blocked : Bool) → Read (remove_answer by key here bar blocked)
remove_read by key false bar blocked = one_read Success refl
remove_read by key true (Some j) blocked = one_read Failure refl
remove_read by key true None true = one_read Failure refl
remove_read by key true None false = one_read Success refl

put_read : SentAreRead → (part : ℕ) → part < 2 ^ 62 → (here filled : Bool) → Read (reply (Talk None) (put_answer part here filled))
put_read reads_back part small true filled = one_read AlreadyHave refl
put_read reads_back part small false true = one_read (Error (codes "busy")) (busy_read reads_back)
put_read reads_back part small false false = one_read (PutFrom part) (part_read reads_back part small)

valid_read : (by : By) (size : ℕ) (key : List ℕ) (right : Bool) → Read (valid_answer by size key right)
valid_read by size key true = one_read Success refl
valid_read by size key false = one_read Failure refl

word_read : (good : Bool) → Read (reply (Talk None) (if good then Valid else Invalid))
word_read true = one_read Valid refl
word_read false = one_read Invalid refl

module _ (reads_back : SentAreRead) (s : SetUp) (past : List Entry) (h : OwnPast s past) (known : s.number < length s.repos) (k : Look) (small : k.part < 2 ^ 62) (early : k.time ≤ 1000000000000) (a : EndName) where
  abbrev spot : Here
  spot = here s (state_of s past) k a

  tries_read : (cs : List Call) (says : List FrameText) (good : Reply) → SaysRead says → Read good → Read (tries spot cs says good)
  tries_read cs says good f g = unless_found Read (failing_call k.fails cs) (λ call. record { kind = Fault call (by_of spot); says = says; calls = [] }) good (λ call. f) g

  lock_ok : (key : List ℕ) → Read (on_lock spot key)
  lock_ok key = tries_read (to_lock (gives_locks s) (is_here spot key) (bar_on spot key)) failure_line
      (lock_answer ((state_of s past).made + 1) (now_of spot + hold_time) (by_of spot) key (gives_locks s) (is_here spot key) (bar_on spot key)) refuses_read
      (lock_read ((state_of s past).made + 1) (now_of spot + hold_time) (by_of spot) key (gives_locks s) (is_here spot key) (bar_on spot key))

  remove_ok : (key : List ℕ) → Read (on_remove spot key)
  remove_ok key = tries_read (to_remove (is_here spot key) (bar_on spot key) (is_held spot key)) failure_line
      (remove_answer (by_of spot) key (is_here spot key) (bar_on spot key) (is_held spot key)) refuses_read
      (remove_read (by_of spot) key (is_here spot key) (bar_on spot key) (is_held spot key))

  before_ok : (n : ℕ) (key : List ℕ) → Read (on_remove_before spot n key)
  before_ok n key = if_either Read (nat_lt (now_of spot) (1000 * n)) (on_remove spot key) _ (λ e. remove_ok key) (λ e. one_read Failure refl)

  put_ok : (key : List ℕ) → Read (on_put spot key)
  put_ok key = tries_read (to_offer k.part (is_here spot key) (is_filled s (state_of s past) key)) failure_line
      (reply (Talk None) (put_answer k.part (is_here spot key) (is_filled s (state_of s past) key))) refuses_read
      (put_read reads_back k.part small (is_here spot key) (is_filled s (state_of s past) key))

  get_ok : (n : ℕ) (key : List ℕ) → Read (tries spot (calls.Size ∷ []) (Closing ∷ []) (reply (Talk None) (Data (bytes_left (content_of spot key) n))))
  get_ok n key = tries_read (calls.Size ∷ []) (Closing ∷ []) (reply (Talk None) (Data (bytes_left (content_of spot key) n))) close_read
      (one_read (Data (bytes_left (content_of spot key) n)) (data_read reads_back s past key n h))

  request_ok : (v : ℕ) (m : Message) → Read (on_request spot v m)
  request_ok v (Version n) = one_read (Version (min n (version_of s))) (version_read reads_back s past n h)
  request_ok v (CheckPresent key) = tries_read (calls.Has ∷ []) failure_line (check_answer key (is_here spot key) (bar_on spot key)) refuses_read (check_read key (is_here spot key) (bar_on spot key))
  request_ok v (LockContent key) = lock_ok key
  request_ok v (Remove key) = remove_ok key
  request_ok v (RemoveBefore n key) = if_either Read (nat_le 3 v) (on_remove_before spot n key) (unexpected_reply spot) (λ e. before_ok n key) (λ e. odd_read reads_back)
  request_ok v GetTimestamp = if_either Read (nat_le 3 v) (reply (Talk None) (Timestamp (now_of spot / 1000))) (unexpected_reply spot)
      (λ e. one_read (Timestamp (now_of spot / 1000)) (time_read reads_back s past k.time h early)) (λ e. odd_read reads_back)
  request_ok v (Get n file key) = if_either Read (nat_le 1 v) _ (unexpected_reply spot) (λ e. get_ok n key) (λ e. odd_read reads_back)
  request_ok v (Put file key) = if_either Read (nat_le 1 v) (on_put spot key) (unexpected_reply spot) (λ e. put_ok key) (λ e. odd_read reads_back)
  request_ok v m = odd_read reads_back

  unlock_ok : (hold : ℕ) (key q : List ℕ) → Read (on_unlock spot hold key q)
  unlock_ok hold key q = if_either Read (bytes_eq q key) (tries spot (calls.Unhold ∷ []) [] (silent_reply (Release hold key))) (unexpected_reply spot)
      (λ e. tries_read (calls.Unhold ∷ []) [] (silent_reply (Release hold key)) no_read no_read) (λ e. odd_read reads_back)

  valid_ok : (key : List ℕ) (size : ℕ) → Read (on_valid spot key size)
  valid_ok key size = tries_read (to_commit k.right) failure_line (valid_answer (by_of spot) size key k.right) refuses_read (valid_read (by_of spot) size key k.right)

  message_ok : (v : ℕ) (doing : Doing) (m : Message) → Read (on_message spot v doing m)
  message_ok v doing (Error text) = close_read
  message_ok v Waits m = request_ok v m
  message_ok v (Guards hold key) (UnlockContent q) = unlock_ok hold key q
  message_ok v Gave Success = no_read
  message_ok v Gave Failure = no_read
  message_ok v (Wants key size) (Data n) = no_read
  message_ok v (Took key size) Valid = valid_ok key size
  message_ok v (Took key size) Invalid = one_read Failure refl
  message_ok v doing m = odd_read reads_back

  bytes_ok : (n : ℕ) (doing : Doing) → Read (on_bytes spot n doing)
  bytes_ok n (Takes key size left) = if_either Read (nat_lt 0 n && nat_le n left) (tries spot (calls.Append ∷ []) (Closing ∷ []) (silent_reply (Talk None))) (unexpected_reply spot)
      (λ e. tries_read (calls.Append ∷ []) (Closing ∷ []) (silent_reply (Talk None)) close_read no_read) (λ e. odd_read reads_back)
  bytes_ok n doing = odd_read reads_back

  text_ok : (was : Session) (m : Option Message) → Read (on_text spot was m)
  text_ok was None = odd_read reads_back
  text_ok was (Some m) = message_ok was.version was.doing m

  -- what a session answers to a frame
  pub frame_read : (was : Session) (body : FrameText) → SaysRead (on_frame spot was body).says
  frame_read was Opening = one_read (AuthSuccess (id_of s.repos s.number)) (auth_read reads_back s past h known)
  frame_read was Closing = no_read
  frame_read was (Bytes n) = bytes_ok n was.doing
  frame_read was (Line text) = text_ok was (message_of text)

  piece_ok : (key : List ℕ) (at n : ℕ) → Read (on_piece spot key at n)
  piece_ok key at n = tries_read (calls.Read ∷ []) (Closing ∷ []) _ close_read
      (if_either Read (reaches (content_of spot key) (at + n)) (record { kind = Talk None; says = Bytes n ∷ []; calls = [] }) (shuts (close_kind spot)) (λ e. bytes_read n) (λ e. close_read))

  -- and what it gives unasked
  pub gives_read : (doing : Doing) (x : Reply) → gives_next spot doing ≡ Some x → SaysRead x.says
  gives_read (Gives key at left good) x is =
      let same : (if left == 0 then reply (Talk None) (if good then Valid else Invalid) else on_piece spot key at (min 32768 left)) ≡ x = cc in
      subst Read same (if_either Read (left == 0) (reply (Talk None) (if good then Valid else Invalid)) (on_piece spot key at (min 32768 left)) (λ e. word_read good) (λ e. piece_ok key at (min 32768 left)))
  gives_read doing x is = absurd (cc)
