-- How a session's reply counts: it closes the connection, or answers what wants an answer in one line, or is silent to what wants
-- none; GET is answered by DATA, and by the word on its bytes.
use Rattle.node_model.specs.Clocks.{hold_time}
use Rattle.std.proofs.Common.{◌≡◌, ℕ, ◌+◌, ◌*◌, ◌/◌, Bool, true, false, List, [], ◌∷◌, Option, Some, None, ◌⊎◌, inl, inr, refl, subst}
use Rattle.std.specs.Prelude.{if◌then◌else◌, ◌==◌, ◌&&◌, min, nat_lt, nat_le, bytes_eq, codes}
use Rattle.annex_base.specs.declared.kinds.Call.{Call}
use Rattle.annex_base.proofs.Conditions.{if_either}
use Rattle.annex_base.specs.declared.kinds.Call.TheVariants as calls
use Rattle.run_data.specs.declared.entry.By.{By}
use Rattle.run_data.specs.declared.entry.EntryKind.TheVariants.{Fault, Release, Talk}
use Rattle.run_data.specs.declared.entry.FrameText.{FrameText}
use Rattle.run_data.specs.declared.entry.FrameText.TheVariants.{Closing, Bytes, Line}
use Rattle.p2p_wire.specs.declared.message.Message.{Message}
use Rattle.p2p_wire.specs.declared.message.Message.TheVariants.{Version, CheckPresent, LockContent, UnlockContent, Remove, RemoveBefore, GetTimestamp, Timestamp, Get, Put, PutFrom, AlreadyHave, Data, Valid, Invalid, Success, Failure, Error}
use Rattle.p2p_wire.specs.Messages.{text_of}
use Rattle.step_facts.proofs.Ways.{completes}
use Rattle.run_model.specs.Said.{wants_answer}
use Rattle.node_model.specs.Sessions.{Doing, Waits, Guards, Gives, Gave, Wants, Takes, Took, reaches}
use Rattle.node_model.specs.Calls.{to_commit, to_lock, to_offer, to_remove}
use Rattle.node_model.specs.Look.{failing_call}
use Rattle.node_model.specs.SessionStep.{Here, Reply, bar_on, by_of, bytes_left, check_answer, close_kind, content_of, gives_next, is_held, is_here, lock_answer, now_of, on_bytes, on_message, on_piece, on_put, on_remove, on_remove_before, on_request, on_unlock, put_answer, failure_line, remove_answer, reply, shuts, silent_reply, tries, unexpected_reply, valid_answer}
use Rattle.step_facts.proofs.Cases.{unless_found}

-- it isn't giving
abbrev pub calm : Doing → Bool
calm (Gives key at left good) = false
calm _ = true

abbrev pub is_get : Message → Bool
is_get (Get n file key) = true
is_get _ = false

-- ---- the three ways

abbrev pub Closes : List FrameText → Type 0
Closes says = (says ≡ Closing ∷ []) ⊎ (says ≡ Line (text_of (Error (codes "unexpected"))) ∷ Closing ∷ [])

abbrev pub Answers : Bool → Doing → List FrameText → Type 0
Answers q was says = (m : Message) × (says ≡ Line (text_of m) ∷ []) × (completes m ≡ true) × (q ≡ true) × (calm was ≡ true)

abbrev pub Silent : Bool → Doing → List FrameText → Type 0
Silent q was says = (says ≡ []) × (q ≡ false) × (calm was ≡ true)

abbrev pub Counts : Bool → Doing → List FrameText → Type 0
Counts q was says = Closes says ⊎ (Answers q was says ⊎ Silent q was says)

shut : (q : Bool) (was : Doing) → Counts q was (Closing ∷ [])
shut q was = inl (inl refl)

odd : (h : Here) (q : Bool) (was : Doing) → Counts q was (unexpected_reply h).says
odd h q was = inl (inr refl)

-- one line answers a session that isn't giving
answer : (was : Doing) (m : Message) → completes m ≡ true → calm was ≡ true → Counts true was (Line (text_of m) ∷ [])
answer was m c w = inr (inl (m, refl, c, refl, w))

refused : (was : Doing) → calm was ≡ true → Counts true was failure_line
refused was w = answer was Failure refl w

quiet : (was : Doing) → calm was ≡ true → Counts false was []
quiet was w = inr (inr (refl, refl, w))

tries_counts : (h : Here) (q : Bool) (was : Doing) (cs : List Call) (says : List FrameText) (good : Reply) → Counts q was says → Counts q was good.says → Counts q was (tries h cs says good).says
tries_counts h q was cs says good f g = unless_found (λ (x : Reply). Counts q was x.says) (failing_call h.fails cs) (λ call. record { kind = Fault call (by_of h); says = says; calls = [] }) good (λ call. f) g

-- ---- a request of a session that waits

check_counts : (key : List ℕ) (here : Bool) (bar : Option ℕ) → Counts true Waits (check_answer key here bar).says
check_counts key false bar = refused Waits refl
check_counts key true (Some j) = refused Waits refl
check_counts key true None = answer Waits Success refl refl

lock_counts : (hold end : ℕ) (by : By) (key : List ℕ) (locks here : Bool) (bar : Option ℕ) → Counts true Waits (lock_answer hold end by key locks here bar).says
lock_counts hold end by key false here bar = refused Waits refl
lock_counts hold end by key true false bar = refused Waits refl
lock_counts hold end by key true true (Some j) = refused Waits refl
lock_counts hold end by key true true None = answer Waits Success refl refl

remove_counts : (by : By) (key : List ℕ) (here : Bool) (bar : Option ℕ) (blocked : Bool) → Counts true Waits (remove_answer by key here bar blocked).says
remove_counts by key false bar blocked = answer Waits Success refl refl
remove_counts by key true (Some j) blocked = refused Waits refl
remove_counts by key true None true = refused Waits refl
remove_counts by key true None false = answer Waits Success refl refl

put_counts : (part : ℕ) (here filled : Bool) → Counts true Waits (reply (Talk None) (put_answer part here filled)).says
put_counts part true filled = answer Waits AlreadyHave refl refl
put_counts part false true = answer Waits (Error (codes "busy")) refl refl
put_counts part false false = answer Waits (PutFrom part) refl refl

on_remove-counts : (h : Here) (key : List ℕ) → Counts true Waits (on_remove h key).says
on_remove-counts h key = tries_counts h true Waits (to_remove (is_here h key) (bar_on h key) (is_held h key)) failure_line
    (remove_answer (by_of h) key (is_here h key) (bar_on h key) (is_held h key)) (refused Waits refl) (remove_counts (by_of h) key (is_here h key) (bar_on h key) (is_held h key))

before_counts : (h : Here) (n : ℕ) (key : List ℕ) → Counts true Waits (on_remove_before h n key).says
before_counts h n key = if_either (λ (x : Reply). Counts true Waits x.says) (nat_lt (now_of h) (1000 * n)) (on_remove h key) (_) (λ e. on_remove-counts h key) (λ e. refused Waits refl)

with_version : (h : Here) (b : Bool) (x : Reply) → Counts true Waits x.says → Counts true Waits (if b then x else unexpected_reply h).says
with_version h b x f = if_either (λ (y : Reply). Counts true Waits y.says) b x (unexpected_reply h) (λ e. f) (λ e. odd h true Waits)

request_counts : (h : Here) (v : ℕ) (m : Message) → is_get m ≡ false → Counts (wants_answer m) Waits (on_request h v m).says
request_counts h v (Version n) g = answer Waits (Version (min n h.version)) refl refl
request_counts h v (CheckPresent key) g = tries_counts h true Waits (calls.Has ∷ []) failure_line (check_answer key (is_here h key) (bar_on h key)) (refused Waits refl) (check_counts key (is_here h key) (bar_on h key))
request_counts h v (LockContent key) g = tries_counts h true Waits (to_lock h.locks (is_here h key) (bar_on h key)) failure_line
    (lock_answer h.number (now_of h + hold_time) (by_of h) key h.locks (is_here h key) (bar_on h key)) (refused Waits refl)
    (lock_counts h.number (now_of h + hold_time) (by_of h) key h.locks (is_here h key) (bar_on h key))
request_counts h v (Remove key) g = on_remove-counts h key
request_counts h v (RemoveBefore n key) g = with_version h (nat_le 3 v) (on_remove_before h n key) (before_counts h n key)
request_counts h v GetTimestamp g = with_version h (nat_le 3 v) (reply (Talk None) (Timestamp (now_of h / 1000))) (answer Waits (Timestamp (now_of h / 1000)) refl refl)
request_counts h v (Get n file key) g = absurd (cc)
request_counts h v (Put file key) g = with_version h (nat_le 1 v) (on_put h key)
    (tries_counts h true Waits (to_offer h.part (is_here h key) (h.filled key)) failure_line (reply (Talk None) (put_answer h.part (is_here h key) (h.filled key))) (refused Waits refl)
    (put_counts h.part (is_here h key) (h.filled key)))
request_counts h v m g = odd h (wants_answer m) Waits

-- ---- any message

valid_counts : (by : By) (size : ℕ) (key : List ℕ) (right : Bool) → Counts true (Took key size) (valid_answer by size key right).says
valid_counts by size key true = answer (Took key size) Success refl refl
valid_counts by size key false = answer (Took key size) Failure refl refl

unlock_counts : (h : Here) (hold : ℕ) (key k : List ℕ) → Counts false (Guards hold key) (on_unlock h hold key k).says
unlock_counts h hold key k = if_either (λ (x : Reply). Counts false (Guards hold key) x.says) (bytes_eq k key) (tries h (calls.Unhold ∷ []) [] (silent_reply (Release hold key))) (unexpected_reply h)
    (λ e. tries_counts h false (Guards hold key) (calls.Unhold ∷ []) [] (silent_reply (Release hold key)) (quiet (Guards hold key) refl) (quiet (Guards hold key) refl))
    (λ e. odd h false (Guards hold key))

pub message_counts : (h : Here) (v : ℕ) (doing : Doing) (m : Message) → is_get m ≡ false → Counts (wants_answer m) doing (on_message h v doing m).says
message_counts h v doing (Error text) g = shut false doing
message_counts h v Waits m g = request_counts h v m g
message_counts h v (Guards hold key) (UnlockContent k) g = unlock_counts h hold key k
message_counts h v Gave Success g = quiet Gave refl
message_counts h v Gave Failure g = quiet Gave refl
message_counts h v (Wants key size) (Data n) g = quiet (Wants key size) refl
message_counts h v (Took key size) Valid g = tries_counts h true (Took key size) (to_commit h.right) failure_line (valid_answer (by_of h) size key h.right) (refused (Took key size) refl) (valid_counts (by_of h) size key h.right)
message_counts h v (Took key size) Invalid g = answer (Took key size) Failure refl refl
message_counts h v doing m g = odd h (wants_answer m) doing

-- GET closes, or is answered by DATA
abbrev pub GetCounts : Doing → List FrameText → Type 0
GetCounts was says = Closes says ⊎ ((left : ℕ) × (says ≡ Line (text_of (Data left)) ∷ []) × (was ≡ Waits))

get_waits : (h : Here) (v n : ℕ) (file key : List ℕ) → GetCounts Waits (on_request h v (Get n file key)).says
get_waits h v n file key =
    let good : Reply = reply (Talk None) (Data (bytes_left (content_of h key) n)) in
    if_either (λ (x : Reply). GetCounts Waits x.says) (nat_le 1 v) (tries h (calls.Size ∷ []) (Closing ∷ []) good) (unexpected_reply h)
    (λ e. unless_found (λ (x : Reply). GetCounts Waits x.says) (failing_call h.fails (calls.Size ∷ [])) (λ call. record { kind = Fault call (by_of h); says = Closing ∷ []; calls = [] }) good
    (λ call. inl (inl refl)) (inr (bytes_left (content_of h key) n, refl, refl)))
    (λ e. inl (inr refl))

pub get_counts : (h : Here) (v : ℕ) (doing : Doing) (n : ℕ) (file key : List ℕ) → GetCounts doing (on_message h v doing (Get n file key)).says
get_counts h v Waits n file key = get_waits h v n file key
get_counts h v (Guards hold k) n file key = inl (inr refl)
get_counts h v (Gives k at left good) n file key = inl (inr refl)
get_counts h v Gave n file key = inl (inr refl)
get_counts h v (Wants k size) n file key = inl (inr refl)
get_counts h v (Takes k size left) n file key = inl (inr refl)
get_counts h v (Took k size) n file key = inl (inr refl)

pub bytes_counts : (h : Here) (n : ℕ) (doing : Doing) → Counts false doing (on_bytes h n doing).says
bytes_counts h n (Takes key size left) = if_either (λ (x : Reply). Counts false (Takes key size left) x.says) (nat_lt 0 n && nat_le n left) (tries h (calls.Append ∷ []) (Closing ∷ []) (silent_reply (Talk None))) (unexpected_reply h)
    (λ e. tries_counts h false (Takes key size left) (calls.Append ∷ []) (Closing ∷ []) (silent_reply (Talk None)) (shut false (Takes key size left)) (quiet (Takes key size left) refl))
    (λ e. odd h false (Takes key size left))
bytes_counts h n doing = odd h false doing

-- ---- what is given unasked: a piece, or the word on all, or a Close

abbrev pub Pieces : Doing → List FrameText → Type 0
Pieces was says = (says ≡ Closing ∷ []) ⊎ (((n : ℕ) × (says ≡ Bytes n ∷ [])) ⊎ ((m : Message) × (says ≡ Line (text_of m) ∷ []) × ((m ≡ Valid) ⊎ (m ≡ Invalid))))

piece_counts : (h : Here) (was : Doing) (key : List ℕ) (at n : ℕ) → Pieces was (on_piece h key at n).says
piece_counts h was key at n =
    let good : Reply = if reaches (content_of h key) (at + n) then record { kind = Talk None; says = Bytes n ∷ []; calls = [] } else shuts (close_kind h) in
    unless_found (λ (x : Reply). Pieces was x.says) (failing_call h.fails (calls.Read ∷ [])) (λ call. record { kind = Fault call (by_of h); says = Closing ∷ []; calls = [] }) good (λ call. inl refl)
    (if_either (λ (x : Reply). Pieces was x.says) (reaches (content_of h key) (at + n)) (record { kind = Talk None; says = Bytes n ∷ []; calls = [] }) (shuts (close_kind h)) (λ e. inr (inl (n, refl))) (λ e. inl refl))

abbrev pub GivesOne : Doing → List FrameText → Type 0
GivesOne was says = (calm was ≡ false) × Pieces was says

gives_one : (h : Here) (was : Doing) (key : List ℕ) (at left : ℕ) (good : Bool) → Pieces was (if left == 0 then reply (Talk None) (if good then Valid else Invalid) else on_piece h key at (min 32768 left)).says
gives_one h was key at left good = if_either (λ (x : Reply). Pieces was x.says) (left == 0) (reply (Talk None) (if good then Valid else Invalid)) (on_piece h key at (min 32768 left)) (λ e. word good) (λ e. piece_counts h was key at (min 32768 left))
  where
    word : (b : Bool) → Pieces was (reply (Talk None) (if b then Valid else Invalid)).says
    word true = inr (inr (Valid, refl, inl refl))
    word false = inr (inr (Invalid, refl, inr refl))

pub gives_counts : (h : Here) (was : Doing) (x : Reply) → gives_next h was ≡ Some x → GivesOne was x.says
gives_counts h (Gives key at left good) x e =
    let y : Reply = if left == 0 then reply (Talk None) (if good then Valid else Invalid) else on_piece h key at (min 32768 left) in
    let same : y ≡ x = cc in
    (refl, subst (λ (z : Reply). Pieces (Gives key at left good) z.says) same (gives_one h (Gives key at left good) key at left good))
gives_counts h Waits x e = absurd (cc)
gives_counts h (Guards hold key) x e = absurd (cc)
gives_counts h Gave x e = absurd (cc)
gives_counts h (Wants key size) x e = absurd (cc)
gives_counts h (Takes key size left) x e = absurd (cc)
gives_counts h (Took key size) x e = absurd (cc)
