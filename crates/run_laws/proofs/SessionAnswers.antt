-- Which answers a session gives to which message, and what the entry that answers found.
use Rattle.node_model.specs.Clocks.{hold_time}
use Rattle.std.proofs.Common.{◌≡◌, ℕ, ◌+◌, ◌*◌, ◌/◌, ◌≤◌, Bool, true, false, List, [], ◌∷◌, Option, Some, None, ◌⊎◌, inl, inr, refl, sym, ap, ◌∙◌, subst, arith}
use Rattle.std.proofs.lemmas.Bool.Decides.{nat_tests}
use Rattle.std.proofs.lemmas.Bool.{true≢false}
use Rattle.std.specs.Prelude.{if◌then◌else◌, bytes_eq, codes, min, nat_le, nat_lt}
use Rattle.annex_base.specs.Lists.{Member}
use Rattle.annex_base.specs.declared.kinds.Call.{Call}
use Rattle.annex_base.proofs.Conditions.{if_either}
use Rattle.annex_base.specs.declared.kinds.Call.TheVariants as calls
use Rattle.annex_base.specs.declared.kinds.Found.TheVariants as found
use Rattle.run_data.specs.declared.entry.By.{By}
use Rattle.run_data.specs.declared.entry.EntryKind.{EntryKind}
use Rattle.run_data.specs.declared.entry.EntryKind.TheVariants.{Check, Fault, Gain, Release, Share, Talk}
use Rattle.run_data.specs.declared.entry.FrameText.{FrameText}
use Rattle.run_data.specs.declared.entry.FrameText.TheVariants.{Closing, Line}
use Rattle.run_data.specs.declared.job.Denial.{Denial}
use Rattle.run_data.specs.declared.job.Denial.TheVariants as denials
use Rattle.run_model.specs.Causes.{denied_by, rejects}
use Rattle.p2p_wire.specs.declared.message.Message.{Message}
use Rattle.p2p_wire.specs.declared.message.Message.TheVariants.{Version, CheckPresent, LockContent, UnlockContent, Remove, RemoveBefore, GetTimestamp, Timestamp, Get, Put, PutFrom, AlreadyHave, Data, Valid, Invalid, Success, Failure, Error}
use Rattle.p2p_wire.specs.Messages.{message_of, text_of}
use Rattle.run_model.specs.Said.{Says, is_request, message_in, wants_answer}
use Rattle.step_facts.proofs.Ways.{completes, is_answer}
use Rattle.node_model.specs.Sessions.{Doing, Waits, Guards, Gave, Wants, Took, Session}
use Rattle.node_model.specs.Calls.{to_commit, to_lock, to_offer, to_remove}
use Rattle.node_model.specs.Look.{failing_call}
use Rattle.node_model.specs.SessionStep.{Here, Reply, bar_on, by_of, bytes_left, check_answer, content_of, is_held, is_here, lock_answer, now_of, on_frame, on_message, on_put, on_remove, on_remove_before, on_request, on_text, put_answer, failure_line, remove_answer, reply, silent_reply, tries, unexpected_reply, valid_answer}
use Rattle.step_facts.proofs.Cases.{unless_found}
use Rattle.step_facts.proofs.Counting.{Closes, Counts, GetCounts, calm, get_counts, message_counts}
use Rattle.run_laws.proofs.SaidDown.{Alike, alike, alike_completes, closing_ends, odd_answer, said_line-is, tells}
use Rattle.run_laws.proofs.SessionSays.{read_of}

-- ---- the table

-- a refused look: the row was absent or barred, or a call failed
abbrev pub refuses_look : EntryKind → Bool
refuses_look (Check found.Absent key) = true
refuses_look (Check found.Barred key) = true
refuses_look (Fault call by) = true
refuses_look _ = false

-- a session that takes this message may answer it so, by an entry of this kind
abbrev pub AnswerFits : Message → EntryKind → Message → Type 0
AnswerFits (Version n) kind (Version k) = k ≤ n
AnswerFits (CheckPresent key) kind Success = kind ≡ Check found.Present key
AnswerFits (CheckPresent key) kind Failure = refuses_look kind ≡ true
AnswerFits (LockContent key) kind Success = Unit {0}
AnswerFits (LockContent key) kind Failure = Unit {0}
AnswerFits (Remove key) kind Success = Unit {0}
AnswerFits (Remove key) kind Failure = (answer : Denial) × (denied_by kind ≡ Some answer)
AnswerFits (RemoveBefore n key) kind Success = Unit {0}
AnswerFits (RemoveBefore n key) kind Failure = (answer : Denial) × (denied_by kind ≡ Some answer)
AnswerFits GetTimestamp kind (Timestamp n) = Unit {0}
AnswerFits (Get n file key) kind (Data left) = Unit {0}
AnswerFits (Put file key) kind Failure = rejects kind ≡ true
AnswerFits (Put file key) kind AlreadyHave = Unit {0}
AnswerFits (Put file key) kind (PutFrom n) = Unit {0}
AnswerFits (Put file key) kind (Error text) = text ≡ codes "busy"
AnswerFits Valid kind Success = Unit {0}
AnswerFits Valid kind Failure = rejects kind ≡ true
AnswerFits Invalid kind Failure = rejects kind ≡ true
AnswerFits asked kind m = ⊥

-- it closes the connection, is silent, or answers in one line that fits
abbrev pub Replied : Message → Reply → Type 0
Replied asked x = Closes x.says ⊎ ((x.says ≡ []) ⊎ ((m : Message) × (x.says ≡ Line (text_of m) ∷ []) × (tells m ≡ true) × AnswerFits asked x.kind m))

odd : (h : Here) (asked : Message) → Replied asked (unexpected_reply h)
odd h asked = inl (inr refl)

fits : (asked : Message) (kind : EntryKind) (m : Message) → tells m ≡ true → AnswerFits asked kind m → Replied asked (reply kind m)
fits asked kind m t a = inr (inr (m, refl, t, a))

tries_replied : (h : Here) (asked : Message) (cs : List Call) (says : List FrameText) (good : Reply) → ((call : Call) → Replied asked (record { kind = Fault call (by_of h); says = says; calls = [] })) → Replied asked good → Replied asked (tries h cs says good)
tries_replied h asked cs says good f g = unless_found (Replied asked) (failing_call h.fails cs) (λ call. record { kind = Fault call (by_of h); says = says; calls = [] }) good f g

-- ---- a session that waits

check_replied : (key : List ℕ) (here : Bool) (bar : Option ℕ) → Replied (CheckPresent key) (check_answer key here bar)
check_replied key false bar = fits (CheckPresent key) (Check found.Absent key) Failure refl refl
check_replied key true (Some j) = fits (CheckPresent key) (Check found.Barred key) Failure refl refl
check_replied key true None = fits (CheckPresent key) (Check found.Present key) Success refl refl

lock_replied : (hold end : ℕ) (by : By) (key : List ℕ) (locks here : Bool) (bar : Option ℕ) → Replied (LockContent key) (lock_answer hold end by key locks here bar)
lock_replied hold end by key false here bar = fits (LockContent key) (Check found.Nolock key) Failure refl tt
lock_replied hold end by key true false bar = fits (LockContent key) (Check found.Absent key) Failure refl tt
lock_replied hold end by key true true (Some j) = fits (LockContent key) (Check found.Barred key) Failure refl tt
lock_replied hold end by key true true None = fits (LockContent key) (Share hold end by key) Success refl tt

-- an order, of any form
abbrev IsOrder : Message → Type 0
IsOrder asked = ((kind : EntryKind) → AnswerFits asked kind Success) × ((kind : EntryKind) (answer : Denial) → denied_by kind ≡ Some answer → AnswerFits asked kind Failure)

remove_replied : (asked : Message) → IsOrder asked → (by : By) (key : List ℕ) (here : Bool) (bar : Option ℕ) (blocked : Bool) → Replied asked (remove_answer by key here bar blocked)
remove_replied asked o by key false bar blocked = fits asked (_) Success refl (o.0 (_))
remove_replied asked o by key true (Some j) blocked = fits asked (Check found.Barred key) Failure refl (o.1 (Check found.Barred key) denials.Barred refl)
remove_replied asked o by key true None true = fits asked (Check found.Held key) Failure refl (o.1 (Check found.Held key) denials.Held refl)
remove_replied asked o by key true None false = fits asked (_) Success refl (o.0 (_))

on_remove-replied : (asked : Message) → IsOrder asked → (h : Here) (key : List ℕ) → Replied asked (on_remove h key)
on_remove-replied asked o h key = tries_replied h asked (to_remove (is_here h key) (bar_on h key) (is_held h key)) failure_line
    (remove_answer (by_of h) key (is_here h key) (bar_on h key) (is_held h key)) (λ call. fits asked (Fault call (by_of h)) Failure refl (o.1 (Fault call (by_of h)) denials.Fault refl))
    (remove_replied asked o (by_of h) key (is_here h key) (bar_on h key) (is_held h key))

removes : (key : List ℕ) → IsOrder (Remove key)
removes key = ((λ kind. tt), (λ kind answer is. (answer, is)))

removes_before : (n : ℕ) (key : List ℕ) → IsOrder (RemoveBefore n key)
removes_before n key = ((λ kind. tt), (λ kind answer is. (answer, is)))

before_replied : (h : Here) (n : ℕ) (key : List ℕ) → Replied (RemoveBefore n key) (on_remove_before h n key)
before_replied h n key = if_either (Replied (RemoveBefore n key)) (nat_lt (now_of h) (1000 * n)) (on_remove h key) (reply (Check found.Late key) Failure)
    (λ e. on_remove-replied (RemoveBefore n key) (removes_before n key) h key) (λ e. fits (RemoveBefore n key) (Check found.Late key) Failure refl (denials.Late, refl))

put_replied : (file key : List ℕ) (part : ℕ) (here filled : Bool) → Replied (Put file key) (reply (Talk None) (put_answer part here filled))
put_replied file key part true filled = fits (Put file key) (Talk None) AlreadyHave refl tt
put_replied file key part false true = fits (Put file key) (Talk None) (Error (codes "busy")) refl refl
put_replied file key part false false = fits (Put file key) (Talk None) (PutFrom part) refl tt

with_version : (h : Here) (asked : Message) (b : Bool) (x : Reply) → Replied asked x → Replied asked (if b then x else unexpected_reply h)
with_version h asked b x f = if_either (Replied asked) b x (unexpected_reply h) (λ e. f) (λ e. odd h asked)

min_below : (n v : ℕ) → min n v ≤ n
min_below n v = grind (arith, nat_tests)

request_replied : (h : Here) (v : ℕ) (m : Message) → Replied m (on_request h v m)
request_replied h v (Version n) = fits (Version n) (Talk None) (Version (min n h.version)) refl (min_below n h.version)
request_replied h v (CheckPresent key) = tries_replied h (CheckPresent key) (calls.Has ∷ []) failure_line (check_answer key (is_here h key) (bar_on h key))
    (λ call. fits (CheckPresent key) (Fault call (by_of h)) Failure refl refl) (check_replied key (is_here h key) (bar_on h key))
request_replied h v (LockContent key) = tries_replied h (LockContent key) (to_lock h.locks (is_here h key) (bar_on h key)) failure_line
    (lock_answer h.number (now_of h + hold_time) (by_of h) key h.locks (is_here h key) (bar_on h key)) (λ call. fits (LockContent key) (Fault call (by_of h)) Failure refl tt)
    (lock_replied h.number (now_of h + hold_time) (by_of h) key h.locks (is_here h key) (bar_on h key))
request_replied h v (Remove key) = on_remove-replied (Remove key) (removes key) h key
request_replied h v (RemoveBefore n key) = with_version h (RemoveBefore n key) (nat_le 3 v) (on_remove_before h n key) (before_replied h n key)
request_replied h v GetTimestamp = with_version h GetTimestamp (nat_le 3 v) (reply (Talk None) (Timestamp (now_of h / 1000))) (fits GetTimestamp (Talk None) (Timestamp (now_of h / 1000)) refl tt)
request_replied h v (Get n file key) =
    let good : Reply = reply (Talk None) (Data (bytes_left (content_of h key) n)) in
    with_version h (Get n file key) (nat_le 1 v) (tries h (calls.Size ∷ []) (Closing ∷ []) good)
    (tries_replied h (Get n file key) (calls.Size ∷ []) (Closing ∷ []) good (λ call. inl (inl refl)) (fits (Get n file key) (Talk None) (Data (bytes_left (content_of h key) n)) refl tt))
request_replied h v (Put file key) =
    let good : Reply = reply (Talk None) (put_answer h.part (is_here h key) (h.filled key)) in
    with_version h (Put file key) (nat_le 1 v) (on_put h key)
    (tries_replied h (Put file key) (to_offer h.part (is_here h key) (h.filled key)) failure_line good (λ call. fits (Put file key) (Fault call (by_of h)) Failure refl refl)
    (put_replied file key h.part (is_here h key) (h.filled key)))
request_replied h v m = odd h m

-- ---- any session

valid_replied : (by : By) (size : ℕ) (key : List ℕ) (right : Bool) → Replied Valid (valid_answer by size key right)
valid_replied by size key true = fits Valid (Gain by size key) Success refl tt
valid_replied by size key false = fits Valid (Talk None) Failure refl refl

unlock_replied : (h : Here) (hold : ℕ) (key k : List ℕ) → Replied (UnlockContent k) (on_message h 0 (Guards hold key) (UnlockContent k))
unlock_replied h hold key k = if_either (Replied (UnlockContent k)) (bytes_eq k key) (tries h (calls.Unhold ∷ []) [] (silent_reply (Release hold key))) (unexpected_reply h)
    (λ e. tries_replied h (UnlockContent k) (calls.Unhold ∷ []) [] (silent_reply (Release hold key)) (λ call. inr (inl refl)) (inr (inl refl))) (λ e. odd h (UnlockContent k))

pub message_replied : (h : Here) (v : ℕ) (doing : Doing) (m : Message) → Replied m (on_message h v doing m)
message_replied h v doing (Error text) = inl (inl refl)
message_replied h v Waits m = request_replied h v m
message_replied h v (Guards hold key) (UnlockContent k) = unlock_replied h hold key k
message_replied h v Gave Success = inr (inl refl)
message_replied h v Gave Failure = inr (inl refl)
message_replied h v (Wants key size) (Data n) = inr (inl refl)
message_replied h v (Took key size) Valid = tries_replied h Valid (to_commit h.right) failure_line (valid_answer (by_of h) size key h.right)
    (λ call. fits Valid (Fault call (by_of h)) Failure refl refl) (valid_replied (by_of h) size key h.right)
message_replied h v (Took key size) Invalid = fits Invalid (Talk None) Failure refl refl
message_replied h v doing m = odd h m

-- ---- an answer among what is said

closes_answer : (says : List FrameText) (b : FrameText) (k : Message) → Closes says → Member b says → message_in b ≡ Says k → completes k ≡ true → ⊥
closes_answer says b k (inl x) m e c = elim (subst (Member b) x m) [ inl i ↦ closing_ends b k i e | inr i ↦ i ]
closes_answer says b k (inr x) m e c = go (subst (Member b) x m)
  where
    go : Member b (Line (text_of (Error (codes "unexpected"))) ∷ Closing ∷ []) → ⊥
    go (inl i) = true≢false (sym (ap is_answer e ∙ c) ∙ ap (λ z. is_answer (message_in z)) i ∙ odd_answer)
    go (inr (inl i)) = closing_ends b k i e
    go (inr (inr i)) = i

-- what is read of it is of its kind
pub record Answering (asked : Message) (kind : EntryKind) (k : Message) : Type 0 where
  pub m : Message
  pub fits : AnswerFits asked kind m
  pub alike : Alike m k

line_alike : (b : FrameText) (m k : Message) → tells m ≡ true → b ≡ Line (text_of m) → message_in b ≡ Says k → Alike m k
line_alike b m k t i e = alike m t k (read_of (text_of m) k (sym (ap message_in i) ∙ e))

replied_answer : (asked : Message) (x : Reply) (b : FrameText) (k : Message) → Replied asked x → Member b x.says → message_in b ≡ Says k → completes k ≡ true → Answering asked x.kind k
replied_answer asked x b k (inl y) m e c = absurd (closes_answer x.says b k y m e c)
replied_answer asked x b k (inr (inl y)) m e c = absurd (subst (Member b) y m)
replied_answer asked x b k (inr (inr y)) m e c = elim (subst (Member b) y.1 m) [ inl i ↦ record { m = y.0; fits = y.3; alike = line_alike b y.0 k y.2 i e } | inr i ↦ absurd i ]

-- it is said alone, and to a request, by a session that gives nothing
pub record Completing (q : Bool) (was : Doing) (says : List FrameText) (b : FrameText) : Type 0 where
  pub alone : says ≡ b ∷ []
  pub request : q ≡ true
  pub gives_none : calm was ≡ true

pub counts_answer : (q : Bool) (was : Doing) (says : List FrameText) (b : FrameText) (k : Message) → Counts q was says → Member b says → message_in b ≡ Says k → completes k ≡ true → Completing q was says b
counts_answer q was says b k (inl x) m e c = absurd (closes_answer says b k x m e c)
counts_answer q was says b k (inr (inl x)) m e c = elim (subst (Member b) x.1 m) [ inl i ↦ record { alone = x.1 ∙ ap (λ z. z ∷ []) (sym i); request = x.3; gives_none = x.4 } | inr i ↦ absurd i ]
counts_answer q was says b k (inr (inr x)) m e c = absurd (subst (Member b) x.0 m)

get_answer : (was : Doing) (says : List FrameText) (b : FrameText) (k : Message) → GetCounts was says → Member b says → message_in b ≡ Says k → completes k ≡ true → ⊥
get_answer was says b k (inl x) m e c = closes_answer says b k x m e c
get_answer was says b k (inr x) m e c = elim (subst (Member b) x.1 m) [ inl i ↦ true≢false (sym c ∙ sym (alike_completes (Data x.0) k (line_alike b (Data x.0) k refl i e))) | inr i ↦ i ]

message_completing : (h : Here) (v : ℕ) (doing : Doing) (m : Message) (b : FrameText) (k : Message) → Member b (on_message h v doing m).says → message_in b ≡ Says k → completes k ≡ true → Completing (wants_answer m) doing (on_message h v doing m).says b
message_completing h v doing (Get n file key) b k i e c = absurd (get_answer doing (on_message h v doing (Get n file key)).says b k (get_counts h v doing n file key) i e c)
message_completing h v doing m b k i e c = counts_answer (wants_answer m) doing (on_message h v doing m).says b k (message_counts h v doing m refl) i e c

-- **a session's answer to a line**
pub record LineAnswer (h : Here) (was : Session) (text : List ℕ) (b : FrameText) (k : Message) : Type 0 where
  pub asked : Message
  pub asked_is : message_in (Line text) ≡ Says asked
  pub answering : Answering asked (on_frame h was (Line text)).kind k
  pub completing : Completing (is_request (message_in (Line text))) was.doing (on_frame h was (Line text)).says b

pub line_answer : (h : Here) (was : Session) (text : List ℕ) (b : FrameText) (k : Message) → Member b (on_frame h was (Line text)).says → message_in b ≡ Says k → completes k ≡ true → LineAnswer h was text b k
line_answer h was text b k i e c = go (message_of text) refl
  where
    go : (o : Option Message) → message_of text ≡ o → LineAnswer h was text b k
    go None is = absurd (closes_answer (on_frame h was (Line text)).says b k (subst (λ (o : Option Message). Closes (on_text h was o).says) (sym is) (inr refl)) i e c)
    go (Some m) is =
        let said : message_in (Line text) ≡ Says m = said_line-is text ∙ ap Rattle.run_model.specs.Said.said_line is in
        let j : Member b (on_message h was.version was.doing m).says = subst (λ (o : Option Message). Member b (on_text h was o).says) is i in
        record {
          asked = m;
          asked_is = said;
          answering = subst (λ (o : Option Message). Answering m (on_text h was o).kind k) (sym is) (replied_answer m (on_message h was.version was.doing m) b k (message_replied h was.version was.doing m) j e c);
          completing = subst (λ q. Completing (is_request q) was.doing (on_frame h was (Line text)).says b) (sym said)
              (subst (λ (o : Option Message). Completing (wants_answer m) was.doing (on_text h was o).says b) (sym is) (message_completing h was.version was.doing m b k j e c));
        }
