-- What a session's entry says: lines of a server, SUCCESS alone and to a request that it answers.
use Rattle.node_model.specs.Clocks.{hold_time}
use Rattle.std.proofs.Common.{◌≡◌, ℕ, ◌+◌, Bool, true, false, List, [], ◌∷◌, Option, Some, None, ◌⊎◌, inl, inr, refl, sym, ap, ◌∙◌, subst}
use Rattle.std.specs.Prelude.{codes}
use Rattle.annex_base.specs.Lists.{Each, Member}
use Rattle.annex_base.specs.declared.kinds.Call.TheVariants as calls
use Rattle.annex_base.specs.declared.kinds.Found.TheVariants as found
use Rattle.run_data.specs.declared.entry.By.{By}
use Rattle.run_data.specs.declared.entry.EntryKind.TheVariants.{Share, Check, Fault}
use Rattle.run_data.specs.declared.entry.FrameText.{FrameText}
use Rattle.run_data.specs.declared.entry.FrameText.TheVariants.{Opening, Closing, Bytes, Line}
use Rattle.p2p_wire.specs.declared.message.Message.{Message}
use Rattle.p2p_wire.specs.declared.message.Message.TheVariants.{AuthSuccess, Version, CheckPresent, LockContent, Timestamp, Get, PutFrom, AlreadyHave, Data, Valid, Invalid, Success, Failure, Error}
use Rattle.p2p_wire.specs.Messages.{message_of, text_of}
use Rattle.run_model.specs.Said.{Says, is_request, message_in, said_line, wants_answer}
use Rattle.node_model.specs.Sessions.{Doing, Waits, Guards, Gives, Gave, Wants, Takes, Took, Session, line_in}
use Rattle.node_model.specs.Calls.{to_lock}
use Rattle.node_model.specs.Look.{failing_call}
use Rattle.node_model.specs.SessionStep.{Here, Reply, bar_on, by_of, check_answer, here, is_here, lock_answer, now_of, on_frame, on_message, on_text, failure_line}
use Rattle.run_laws.proofs.TurnFits.{tells_of}
use Rattle.step_facts.proofs.Cases.{unless_found}
use Rattle.step_facts.proofs.Counting.{Closes, Counts, GetCounts, Pieces, bytes_counts, calm, get_counts, message_counts}
use Rattle.run_laws.proofs.SaidDown.{Alike, alike, bytes_end, closing_ends, odd_alike, said_bytes, said_closing, said_line-is, tells}

-- ---- the bodies that a server says

abbrev pub FromServer : FrameText → Type 0
FromServer body = (body ≡ Closing) ⊎ (((n : ℕ) × (body ≡ Bytes n)) ⊎ ((body ≡ Line (text_of (Error (codes "unexpected")))) ⊎ ((m : Message) × (body ≡ Line (text_of m)) × (tells m ≡ true))))

closes_say : (says : List FrameText) → Closes says → Each FromServer says
closes_say says (inl x) = subst (Each FromServer) (sym x) (inl refl, tt)
closes_say says (inr x) = subst (Each FromServer) (sym x) (inr (inr (inl refl)), (inl refl, tt))

one_says : (says : List FrameText) (m : Message) → says ≡ Line (text_of m) ∷ [] → tells m ≡ true → Each FromServer says
one_says says m x t = subst (Each FromServer) (sym x) (inr (inr (inr (m, refl, t))), tt)

counts_say : (q : Bool) (was : Doing) (says : List FrameText) → Counts q was says → Each FromServer says
counts_say q was says (inl x) = closes_say says x
counts_say q was says (inr (inl x)) = one_says says x.0 x.1 (tells_of x.0 x.2)
counts_say q was says (inr (inr x)) = subst (Each FromServer) (sym x.0) tt

get_say : (was : Doing) (says : List FrameText) → GetCounts was says → Each FromServer says
get_say was says (inl x) = closes_say says x
get_say was says (inr x) = one_says says (Data x.0) x.1 refl

pub pieces_say : (was : Doing) (says : List FrameText) → Pieces was says → Each FromServer says
pieces_say was says (inl x) = subst (Each FromServer) (sym x) (inl refl, tt)
pieces_say was says (inr (inl x)) = subst (Each FromServer) (sym x.1) (inr (inl (x.0, refl)), tt)
pieces_say was says (inr (inr x)) = one_says says x.0 x.1 (word x.2)
  where
    word : (x.0 ≡ Valid) ⊎ (x.0 ≡ Invalid) → tells x.0 ≡ true
    word (inl y) = ap tells y
    word (inr y) = ap tells y

message_say : (h : Here) (v : ℕ) (doing : Doing) (m : Message) → Each FromServer (on_message h v doing m).says
message_say h v doing (Get n file key) = get_say doing (on_message h v doing (Get n file key)).says (get_counts h v doing n file key)
message_say h v doing m = counts_say (wants_answer m) doing (on_message h v doing m).says (message_counts h v doing m refl)

text_say : (h : Here) (was : Session) (m : Option Message) → Each FromServer (on_text h was m).says
text_say h was None = closes_say (on_text h was None).says (inr refl)
text_say h was (Some m) = message_say h was.version was.doing m

pub frame_say : (h : Here) (was : Session) (body : FrameText) → Each FromServer (on_frame h was body).says
frame_say h was Opening = one_says (on_frame h was Opening).says (AuthSuccess h.id) refl refl
frame_say h was Closing = tt
frame_say h was (Bytes n) = counts_say false was.doing (on_frame h was (Bytes n)).says (bytes_counts h n was.doing)
frame_say h was (Line text) = text_say h was (message_of text)

-- ---- what it is read as

-- a message that a server may say
abbrev pub is_down : Message → Bool
is_down (Error text) = true
is_down m = tells m

alike_down : (m k : Message) → Alike m k → is_down k ≡ true
alike_down (AuthSuccess i) (AuthSuccess k) h = refl
alike_down (Version i) (Version k) h = refl
alike_down (Timestamp i) (Timestamp k) h = refl
alike_down (PutFrom i) (PutFrom k) h = refl
alike_down AlreadyHave AlreadyHave h = refl
alike_down (Data i) (Data k) h = refl
alike_down Valid Valid h = refl
alike_down Invalid Invalid h = refl
alike_down Success Success h = refl
alike_down Failure Failure h = refl
alike_down (Error s) (Error t) h = refl
alike_down m k h = absurd h

some_of : (o : Option Message) (k : Message) → said_line o ≡ Says k → o ≡ Some k
some_of None k e = absurd (cc)
some_of (Some m) k e = cc

-- the message of a line
pub read_of : (text : List ℕ) (k : Message) → message_in (Line text) ≡ Says k → message_of text ≡ Some k
read_of text k e = some_of (message_of text) k (sym (said_line-is text) ∙ e)

pub down_only : (body : FrameText) (k : Message) → FromServer body → message_in body ≡ Says k → is_down k ≡ true
down_only body k (inl x) e = absurd (let no' : message_in Closing ≡ Says k = sym (ap message_in x) ∙ e in let no'' = sym said_closing ∙ no' in cc)
down_only body k (inr (inl x)) e = absurd (let no' : message_in (Bytes x.0) ≡ Says k = sym (ap message_in x.1) ∙ e in let no'' = sym (said_bytes x.0) ∙ no' in cc)
down_only body k (inr (inr (inl x))) e = alike_down (Error (codes "unexpected")) k (odd_alike k (read_of (text_of (Error (codes "unexpected"))) k (sym (ap message_in x) ∙ e)))
down_only body k (inr (inr (inr x))) e = alike_down x.0 k (alike x.0 x.2 k (read_of (text_of x.0) k (sym (ap message_in x.1) ∙ e)))

-- ---- SUCCESS

alike_success : (m : Message) → Alike m Success → m ≡ Success
alike_success Success h = refl
alike_success (AuthSuccess i) h = absurd h
alike_success (Version i) h = absurd h
alike_success (Timestamp i) h = absurd h
alike_success (PutFrom i) h = absurd h
alike_success AlreadyHave h = absurd h
alike_success (Data i) h = absurd h
alike_success Valid h = absurd h
alike_success Invalid h = absurd h
alike_success Failure h = absurd h
alike_success (Error t) h = absurd h
alike_success m h = absurd h

odd_no : (b : FrameText) → b ≡ Line (text_of (Error (codes "unexpected"))) → message_in b ≡ Says Success → ⊥
odd_no b i e = odd_alike Success (read_of (text_of (Error (codes "unexpected"))) Success (sym (ap message_in i) ∙ e))

line_success : (b : FrameText) (m : Message) → tells m ≡ true → b ≡ Line (text_of m) → message_in b ≡ Says Success → m ≡ Success
line_success b m t i e = alike_success m (alike m t Success (read_of (text_of m) Success (sym (ap message_in i) ∙ e)))

closes_no : (says : List FrameText) (b : FrameText) → Closes says → Member b says → message_in b ≡ Says Success → ⊥
closes_no says b (inl x) m e = elim (subst (Member b) x m) [ inl i ↦ closing_ends b Success i e | inr i ↦ i ]
closes_no says b (inr x) m e = go (subst (Member b) x m)
  where
    go : Member b (Line (text_of (Error (codes "unexpected"))) ∷ Closing ∷ []) → ⊥
    go (inl i) = odd_no b i e
    go (inr (inl i)) = closing_ends b Success i e
    go (inr (inr i)) = i

-- it is said alone, and to a request, by a session that gives nothing
pub record Agrees (q : Bool) (was : Doing) (says : List FrameText) : Type 0 where
  pub alone : says ≡ Line (text_of Success) ∷ []
  pub request : q ≡ true
  pub gives_none : calm was ≡ true

counts_agree : (q : Bool) (was : Doing) (says : List FrameText) (b : FrameText) → Counts q was says → Member b says → message_in b ≡ Says Success → Agrees q was says
counts_agree q was says b (inl x) m e = absurd (closes_no says b x m e)
counts_agree q was says b (inr (inl x)) m e = elim (subst (Member b) x.1 m) [ inl i ↦ one i | inr i ↦ absurd i ]
  where
    one : b ≡ Line (text_of x.0) → Agrees q was says
    one i = let same : x.0 ≡ Success = line_success b x.0 (tells_of x.0 x.2) i e in record { alone = x.1 ∙ ap (λ k. Line (text_of k) ∷ []) same; request = x.3; gives_none = x.4 }
counts_agree q was says b (inr (inr x)) m e = absurd (subst (Member b) x.0 m)

get_no : (was : Doing) (says : List FrameText) (b : FrameText) → GetCounts was says → Member b says → message_in b ≡ Says Success → ⊥
get_no was says b (inl x) m e = closes_no says b x m e
get_no was says b (inr x) m e = elim (subst (Member b) x.1 m) [ inl i ↦ (let same : Data x.0 ≡ Success = line_success b (Data x.0) refl i e in cc) | inr i ↦ i ]

pub pieces_no : (was : Doing) (says : List FrameText) (b : FrameText) → Pieces was says → Member b says → message_in b ≡ Says Success → ⊥
pieces_no was says b (inl x) m e = closes_no says b (inl x) m e
pieces_no was says b (inr (inl x)) m e = elim (subst (Member b) x.1 m) [ inl i ↦ bytes_end b x.0 Success i e | inr i ↦ i ]
pieces_no was says b (inr (inr x)) m e = elim (subst (Member b) x.1 m) [ inl i ↦ word x.2 i | inr i ↦ i ]
  where
    word : (x.0 ≡ Valid) ⊎ (x.0 ≡ Invalid) → b ≡ Line (text_of x.0) → ⊥
    word (inl y) i = let same : x.0 ≡ Success = line_success b x.0 (ap tells y) i e in let no' : Valid ≡ Success = sym y ∙ same in cc
    word (inr y) i = let same : x.0 ≡ Success = line_success b x.0 (ap tells y) i e in let no' : Invalid ≡ Success = sym y ∙ same in cc

message_agrees : (h : Here) (v : ℕ) (doing : Doing) (m : Message) (b : FrameText) → Member b (on_message h v doing m).says → message_in b ≡ Says Success → Agrees (wants_answer m) doing (on_message h v doing m).says
message_agrees h v doing (Get n file key) b i e = absurd (get_no doing (on_message h v doing (Get n file key)).says b (get_counts h v doing n file key) i e)
message_agrees h v doing m b i e = counts_agree (wants_answer m) doing (on_message h v doing m).says b (message_counts h v doing m refl) i e

text_agrees : (h : Here) (was : Session) (o : Option Message) (b : FrameText) → Member b (on_text h was o).says → message_in b ≡ Says Success → Agrees (is_request (said_line o)) was.doing (on_text h was o).says
text_agrees h was None b i e = absurd (closes_no (on_text h was None).says b (inr refl) i e)
text_agrees h was (Some m) b i e = message_agrees h was.version was.doing m b i e

pub frame_agrees : (h : Here) (was : Session) (body : FrameText) (b : FrameText) → Member b (on_frame h was body).says → message_in b ≡ Says Success
    → Agrees (is_request (message_in body)) was.doing (on_frame h was body).says × ((text : List ℕ) × (body ≡ Line text))
frame_agrees h was Opening b (inl i) e = absurd (let same : AuthSuccess h.id ≡ Success = line_success b (AuthSuccess h.id) refl i e in cc)
frame_agrees h was Opening b (inr i) e = absurd i
frame_agrees h was Closing b i e = absurd i
frame_agrees h was (Bytes n) b i e = absurd (let x = counts_agree false was.doing (on_frame h was (Bytes n)).says b (bytes_counts h n was.doing) i e in let no' : false ≡ true = x.request in cc)
frame_agrees h was (Line text) b i e =
    (subst (λ q. Agrees (is_request q) was.doing (on_text h was (message_of text)).says) (sym (said_line-is text)) (text_agrees h was (message_of text) b i e), (text, refl))

-- ---- what is agreed to is done

abbrev agrees : List FrameText
agrees = Line (text_of Success) ∷ []

first_line : List FrameText → Option Message
first_line [] = None
first_line (b ∷ bs) = line_in b

refused_no : failure_line ≡ agrees → ⊥
unfolding first_line
refused_no e = let no' : Some Failure ≡ Some Success = ap first_line e in cc

odd_alone : (says : List FrameText) → says ≡ Line (text_of (Error (codes "unexpected"))) ∷ Closing ∷ [] → says ≡ agrees → ⊥
odd_alone says i e = let no' : Line (text_of (Error (codes "unexpected"))) ∷ Closing ∷ [] ≡ agrees = sym i ∙ e in cc

abbrev Locks : By → List ℕ → Reply → Type 0
Locks by key x = x.says ≡ agrees → (hold end : ℕ) × (x.kind ≡ Share hold end by key)

lock_agrees : (hold end : ℕ) (by : By) (key : List ℕ) (locks here : Bool) (bar : Option ℕ) → Locks by key (lock_answer hold end by key locks here bar)
lock_agrees hold end by key false here bar e = absurd (refused_no e)
lock_agrees hold end by key true false bar e = absurd (refused_no e)
lock_agrees hold end by key true true (Some j) e = absurd (refused_no e)
lock_agrees hold end by key true true None e = (hold, end, refl)

message_locks : (h : Here) (v : ℕ) (doing : Doing) (key : List ℕ) → Locks (by_of h) key (on_message h v doing (LockContent key))
message_locks h v Waits key e =
    let good : Reply = lock_answer h.number (now_of h + hold_time) (by_of h) key h.locks (is_here h key) (bar_on h key) in
    unless_found (Locks (by_of h) key) (failing_call h.fails (to_lock h.locks (is_here h key) (bar_on h key))) (λ call. record { kind = Fault call (by_of h); says = failure_line; calls = [] }) good (λ call f. absurd (refused_no f))
    (lock_agrees h.number (now_of h + hold_time) (by_of h) key h.locks (is_here h key) (bar_on h key)) e
message_locks h v (Guards hold k) key e = absurd (odd_alone (on_message h v (Guards hold k) (LockContent key)).says refl e)
message_locks h v (Gives k at left good) key e = absurd (odd_alone (on_message h v (Gives k at left good) (LockContent key)).says refl e)
message_locks h v Gave key e = absurd (odd_alone (on_message h v Gave (LockContent key)).says refl e)
message_locks h v (Wants k size) key e = absurd (odd_alone (on_message h v (Wants k size) (LockContent key)).says refl e)
message_locks h v (Takes k size left) key e = absurd (odd_alone (on_message h v (Takes k size left) (LockContent key)).says refl e)
message_locks h v (Took k size) key e = absurd (odd_alone (on_message h v (Took k size) (LockContent key)).says refl e)

abbrev Looks : List ℕ → Reply → Type 0
Looks key x = x.says ≡ agrees → x.kind ≡ Check found.Present key

look_agrees : (key : List ℕ) (here : Bool) (bar : Option ℕ) → Looks key (check_answer key here bar)
look_agrees key false bar e = absurd (refused_no e)
look_agrees key true (Some j) e = absurd (refused_no e)
look_agrees key true None e = refl

message_looks : (h : Here) (v : ℕ) (doing : Doing) (key : List ℕ) → Looks key (on_message h v doing (CheckPresent key))
message_looks h v Waits key e =
    unless_found (Looks key) (failing_call h.fails (calls.Has ∷ [])) (λ call. record { kind = Fault call (by_of h); says = failure_line; calls = [] }) (check_answer key (is_here h key) (bar_on h key)) (λ call f. absurd (refused_no f))
    (look_agrees key (is_here h key) (bar_on h key)) e
message_looks h v (Guards hold k) key e = absurd (odd_alone (on_message h v (Guards hold k) (CheckPresent key)).says refl e)
message_looks h v (Gives k at left good) key e = absurd (odd_alone (on_message h v (Gives k at left good) (CheckPresent key)).says refl e)
message_looks h v Gave key e = absurd (odd_alone (on_message h v Gave (CheckPresent key)).says refl e)
message_looks h v (Wants k size) key e = absurd (odd_alone (on_message h v (Wants k size) (CheckPresent key)).says refl e)
message_looks h v (Takes k size left) key e = absurd (odd_alone (on_message h v (Takes k size left) (CheckPresent key)).says refl e)
message_looks h v (Took k size) key e = absurd (odd_alone (on_message h v (Took k size) (CheckPresent key)).says refl e)

pub line_locks : (h : Here) (was : Session) (text key : List ℕ) → message_of text ≡ Some (LockContent key) → Locks (by_of h) key (on_frame h was (Line text))
line_locks h was text key i = subst (λ (o : Option Message). Locks (by_of h) key (on_text h was o)) (sym i) (message_locks h was.version was.doing key)

pub line_looks : (h : Here) (was : Session) (text key : List ℕ) → message_of text ≡ Some (CheckPresent key) → Looks key (on_frame h was (Line text))
line_looks h was text key i = subst (λ (o : Option Message). Looks key (on_text h was o)) (sym i) (message_looks h was.version was.doing key)

-- ---- how much is said at once

abbrev pub odd_message : Message
odd_message = Error (codes "unexpected")

-- nothing, one frame, or an error and a Close
abbrev pub Short : List FrameText → Type 0
Short says = (says ≡ []) ⊎ (((b : FrameText) × (says ≡ b ∷ [])) ⊎ (says ≡ Line (text_of odd_message) ∷ Closing ∷ []))

closes_short : (says : List FrameText) → Closes says → Short says
closes_short says (inl x) = inr (inl (Closing, x))
closes_short says (inr x) = inr (inr x)

counts_short : (q : Bool) (was : Doing) (says : List FrameText) → Counts q was says → Short says
counts_short q was says (inl x) = closes_short says x
counts_short q was says (inr (inl x)) = inr (inl (Line (text_of x.0), x.1))
counts_short q was says (inr (inr x)) = inl x.0

get_short : (was : Doing) (says : List FrameText) → GetCounts was says → Short says
get_short was says (inl x) = closes_short says x
get_short was says (inr x) = inr (inl (Line (text_of (Data x.0)), x.1))

pub pieces_short : (was : Doing) (says : List FrameText) → Pieces was says → Short says
pieces_short was says (inl x) = inr (inl (Closing, x))
pieces_short was says (inr (inl x)) = inr (inl (Bytes x.0, x.1))
pieces_short was says (inr (inr x)) = inr (inl (Line (text_of x.0), x.1))

message_short : (h : Here) (v : ℕ) (doing : Doing) (m : Message) → Short (on_message h v doing m).says
message_short h v doing (Get n file key) = get_short doing (on_message h v doing (Get n file key)).says (get_counts h v doing n file key)
message_short h v doing m = counts_short (wants_answer m) doing (on_message h v doing m).says (message_counts h v doing m refl)

text_short : (h : Here) (was : Session) (m : Option Message) → Short (on_text h was m).says
text_short h was None = inr (inr refl)
text_short h was (Some m) = message_short h was.version was.doing m

pub frame_short : (h : Here) (was : Session) (body : FrameText) → Short (on_frame h was body).says
frame_short h was Opening = inr (inl (Line (text_of (AuthSuccess h.id)), refl))
frame_short h was Closing = inl refl
frame_short h was (Bytes n) = counts_short false was.doing (on_frame h was (Bytes n)).says (bytes_counts h n was.doing)
frame_short h was (Line text) = text_short h was (message_of text)

-- an error is no request
pub odd_request : is_request (message_in (Line (text_of odd_message))) ≡ false
odd_request = ap is_request (said_line-is (text_of odd_message)) ∙ go (message_of (text_of odd_message)) refl
  where
    go : (o : Option Message) → message_of (text_of odd_message) ≡ o → is_request (said_line o) ≡ false
    go None i = refl
    go (Some k) i = error k (odd_alike k i)
      where
        error : (m : Message) → Alike (Error (codes "unexpected")) m → wants_answer m ≡ false
        error (Error t) j = refl
        error m j = absurd j
