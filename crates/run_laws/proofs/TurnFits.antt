-- A session's reply keeps the turn: what it answers, and whether it gives then, is what was asked, and whether it gave.
use Rattle.std.proofs.Common.{◌≡◌, ℕ, ◌+◌, ◌≤◌, Bool, true, false, List, [], ◌∷◌, length, Option, Some, None, ◌⊎◌, inl, inr, refl, sym, ap, ◌∙◌, subst, arith}
use Rattle.std.specs.Prelude.{if◌then◌else◌, ◌==◌, filter}
use Rattle.run_data.specs.declared.entry.EntryKind.{EntryKind}
use Rattle.run_data.specs.declared.entry.EntryKind.TheVariants.{Share}
use Rattle.run_data.specs.declared.entry.FrameText.{FrameText}
use Rattle.run_data.specs.declared.entry.FrameText.TheVariants.{Opening, Closing, Bytes, Line}
use Rattle.p2p_wire.specs.declared.message.Message.{Message}
use Rattle.p2p_wire.specs.declared.message.Message.TheVariants.{AuthSuccess, Version, CheckPresent, LockContent, UnlockContent, Remove, RemoveBefore, GetTimestamp, Timestamp, Get, Put, PutFrom, AlreadyHave, Data, Valid, Invalid, Success, Failure, Error}
use Rattle.p2p_wire.specs.Messages.{message_of, text_of}
use Rattle.step_facts.proofs.Ways.{completes, is_answer}
use Rattle.run_model.specs.Said.{is_request, message_in, said_line, wants_answer}
use Rattle.node_model.specs.Ends.{End, EndName, frames}
use Rattle.node_model.specs.Sessions.{Doing, Waits, Guards, Gives, Gave, Wants, Takes, Took, Session, doing_after, gave_bytes, gives, guards, reaches, message_said, sent_more, session_took, took_bytes, took_message, takes_more, takes_from, wants}
use Rattle.node_model.specs.SessionStep.{Here, on_frame, on_message, on_text}
use Rattle.step_facts.proofs.Counting.{Closes, Counts, GetCounts, GivesOne, Pieces, bytes_counts, calm, get_counts, is_get, message_counts}
use Rattle.step_facts.proofs.EndMoves.{sends_all}
use Rattle.run_laws.proofs.WayCounts.{one_if}
use Rattle.run_laws.proofs.SaidDown.{Alike, alike, alike_completes, odd_answer, said_bytes, said_closing, said_line-is, tells}

-- it gives a content
abbrev pub busy : Doing → ℕ
busy doing = if calm doing then 0 else 1

-- how many answers are said
abbrev pub answers_in : List FrameText → ℕ
answers_in says = length (filter (λ b. is_answer (message_in b)) says)

-- so many answers at so many requests, while the end stays open
pub record Fits (b b' da dr : ℕ) (opened : Bool) : Type 0 where
  pub within : da ≤ b + dr
  pub turn : opened ≡ true → da + b' ≡ b + dr

-- one line that is said is read
abbrev pub ReadsOne : List FrameText → Type 0
ReadsOne says = (text : List ℕ) → says ≡ Line text ∷ [] → (k : Message) × (message_of text ≡ Some k)

-- ---- a Close

pub closes_answers : (says : List FrameText) → Closes says → answers_in says ≡ 0
closes_answers says (inl x) = rw x (rw said_closing refl)
closes_answers says (inr x) = rw x (rw (odd_answer, said_closing) refl)

pub closes_opened : (a : EndName) (c : End) (says : List FrameText) → Closes says → (sends_all c (frames a c says)).opened ≡ false
closes_opened a c says (inl x) = rw x refl
closes_opened a c says (inr x) = rw x refl

pub closes_fit : (a : EndName) (c : End) (says : List FrameText) (b b' dr : ℕ) → Closes says → Fits b b' (answers_in says) dr (sends_all c (frames a c says)).opened
closes_fit a c says b b' dr x =
    let none : answers_in says ≡ 0 = closes_answers says x in
    let shut : (sends_all c (frames a c says)).opened ≡ false = closes_opened a c says x in
    record { within = omega (arith, none); turn = λ o. absurd (cc) }

-- ---- an answer in a line

pub tells_of : (m : Message) → completes m ≡ true → tells m ≡ true
tells_of (Data n) c = absurd (cc)
tells_of m c = c

line_answers : (m k : Message) → message_of (text_of m) ≡ Some k → tells m ≡ true → is_answer (message_in (Line (text_of m))) ≡ completes m
line_answers m k is t = ap is_answer (said_line-is (text_of m) ∙ ap said_line is) ∙ sym (alike_completes m k (alike m t k is))

pub one_answers : (says : List FrameText) (m : Message) → says ≡ Line (text_of m) ∷ [] → completes m ≡ true → ReadsOne says → answers_in says ≡ 1
one_answers says m is c read =
    let k = read (text_of m) is in
    let yes' : is_answer (message_in (Line (text_of m))) ≡ true = line_answers m k.0 k.1 (tells_of m c) ∙ c in
    rw is (rw yes' refl)

-- ---- what a session does then

more_calm : (key : List ℕ) (size left : ℕ) → calm (takes_more key size left) ≡ true
more_calm key size left = go (left == 0)
  where
    go : (b : Bool) → calm (if b then Took key size else Takes key size left) ≡ true
    go true = refl
    go false = refl

wanted_calm : (n : ℕ) (was : Doing) → calm was ≡ true → calm (takes_from n was) ≡ true
wanted_calm n (Wants key size) w = more_calm key size n
wanted_calm n was w = w

took_calm : (n : ℕ) (was : Doing) → calm was ≡ true → calm (took_bytes n was) ≡ true
took_calm n (Takes key size left) w = more_calm key (size + n) (_)
took_calm n was w = w

guards_calm : (kind : EntryKind) → calm (guards kind) ≡ true
guards_calm (Share hold end owner key) = refl
guards_calm kind = refl

wants_calm : (key : List ℕ) (told : Option Message) → calm (wants key told) ≡ true
wants_calm key (Some (PutFrom size)) = refl
wants_calm key told = refl

calm_after : (size : List ℕ → Option ℕ) (kind : EntryKind) (was : Doing) (told : Option Message) (m : Message) → is_get m ≡ false → calm was ≡ true → calm (doing_after size kind was told m) ≡ true
calm_after size kind was told (LockContent key) g w = guards_calm kind
calm_after size kind was told (UnlockContent key) g w = refl
calm_after size kind was told (Get n file key) g w = absurd (cc)
calm_after size kind was told (Put file key) g w = wants_calm key told
calm_after size kind was told (Data n) g w = wanted_calm n was w
calm_after size kind was told Valid g w = refl
calm_after size kind was told Invalid g w = refl
calm_after size kind was told Success g w = refl
calm_after size kind was told Failure g w = refl
calm_after size kind was told m g w = w

busy_calm : (doing : Doing) → calm doing ≡ true → busy doing ≡ 0
busy_calm doing w = rw w refl

-- a reply that counts so
counts_fit : (q : Bool) (was now : Doing) (a : EndName) (c : End) (says : List FrameText) → ReadsOne says → (calm was ≡ true → calm now ≡ true) → Counts q was says
    → Fits (busy was) (busy now) (answers_in says) (one_if q) (sends_all c (frames a c says)).opened
counts_fit q was now a c says read kept (inl x) = closes_fit a c says (busy was) (busy now) (one_if q) x
counts_fit q was now a c says read kept (inr (inl x)) =
    let one : answers_in says ≡ 1 = one_answers says x.0 x.1 x.2 read in
    let asked : one_if q ≡ 1 = ap one_if x.3 in
    let b : busy was ≡ 0 = busy_calm was x.4 in
    let b' : busy now ≡ 0 = busy_calm now (kept x.4) in
    record { within = omega (arith, one, asked, b); turn = λ o. omega (arith, one, asked, b, b') }
counts_fit q was now a c says read kept (inr (inr x)) =
    let none : answers_in says ≡ 0 = ap answers_in x.0 in
    let asked : one_if q ≡ 0 = ap one_if x.1 in
    let b : busy was ≡ 0 = busy_calm was x.2 in
    let b' : busy now ≡ 0 = busy_calm now (kept x.2) in
    record { within = omega (arith, none); turn = λ o. omega (arith, none, asked, b, b') }

-- GET
data_gives : (k : Message) (left : ℕ) (key : List ℕ) (n : ℕ) (good : Bool) → Alike (Data left) k → calm (gives key n good (Some k)) ≡ false
data_gives (Data i) left key n good h = refl
data_gives (AuthSuccess id) left key n good h = absurd h
data_gives (Version i) left key n good h = absurd h
data_gives (CheckPresent q) left key n good h = absurd h
data_gives (LockContent q) left key n good h = absurd h
data_gives (UnlockContent q) left key n good h = absurd h
data_gives (Remove q) left key n good h = absurd h
data_gives (RemoveBefore i q) left key n good h = absurd h
data_gives GetTimestamp left key n good h = absurd h
data_gives (Timestamp i) left key n good h = absurd h
data_gives (Get i file q) left key n good h = absurd h
data_gives (Put file q) left key n good h = absurd h
data_gives (PutFrom i) left key n good h = absurd h
data_gives AlreadyHave left key n good h = absurd h
data_gives Valid left key n good h = absurd h
data_gives Invalid left key n good h = absurd h
data_gives Success left key n good h = absurd h
data_gives Failure left key n good h = absurd h
data_gives (Error text) left key n good h = absurd h

get_fits : (was : Doing) (a : EndName) (c : End) (says : List FrameText) (key : List ℕ) (n : ℕ) (good : Bool) → ReadsOne says → GetCounts was says
    → Fits (busy was) (busy (gives key n good (message_said (frames a c says)))) (answers_in says) 1 (sends_all c (frames a c says)).opened
get_fits was a c says key n good read (inl x) = closes_fit a c says (busy was) (busy (gives key n good (message_said (frames a c says)))) 1 x
get_fits was a c says key n good read (inr x) =
    let k = read (text_of (Data x.0)) x.1 in
    let none : answers_in says ≡ 0 = ap answers_in x.1 ∙ rw (line_answers (Data x.0) k.0 k.1 refl) refl in
    let b : busy was ≡ 0 = ap busy x.2 in
    let told : message_said (frames a c says) ≡ Some k.0 = ap (λ s. message_said (frames a c s)) x.1 ∙ k.1 in
    let b' : busy (gives key n good (message_said (frames a c says))) ≡ 1 = ap (λ t. busy (gives key n good t)) told ∙ ap (λ d. if d then 0 else 1) (data_gives k.0 x.0 key n good (alike (Data x.0) refl k.0 k.1)) in
    record { within = omega (arith, none); turn = λ o. omega (arith, none, b, b') }

module _ (h : Here) (size : List ℕ → Option ℕ) (was : Session) (a : EndName) (c : End) where
  message_fits : (m : Message) → is_get m ≡ false → ReadsOne (on_message h was.version was.doing m).says
      → Fits (busy was.doing) (busy (doing_after size (on_message h was.version was.doing m).kind was.doing (message_said (frames a c (on_message h was.version was.doing m).says)) m))
      (answers_in (on_message h was.version was.doing m).says) (one_if (wants_answer m)) (sends_all c (frames a c (on_message h was.version was.doing m).says)).opened
  message_fits m g read =
      let x = on_message h was.version was.doing m in
      let told = message_said (frames a c x.says) in
      counts_fit (wants_answer m) was.doing (doing_after size x.kind was.doing told m) a c x.says read (calm_after size x.kind was.doing told m g) (message_counts h was.version was.doing m g)

  text_fits : (o : Option Message) → ReadsOne (on_text h was o).says
      → Fits (busy was.doing) (busy (took_message size (on_text h was o).kind was (message_said (frames a c (on_text h was o).says)) o).doing)
      (answers_in (on_text h was o).says) (one_if (is_request (said_line o))) (sends_all c (frames a c (on_text h was o).says)).opened
  text_fits None read = closes_fit a c (on_text h was None).says (busy was.doing) (busy was.doing) 0 (inr refl)
  text_fits (Some (Get n file key)) read = get_fits was.doing a c (on_message h was.version was.doing (Get n file key)).says key n (reaches (size key) n) read (get_counts h was.version was.doing n file key)
  text_fits (Some m) read = message_fits m refl read

  -- a frame that is no Opening, at an open end that it leaves so
  pub frame_fits : (body : FrameText) → (body ≡ Opening → ⊥) → (body ≡ Closing → c.opened ≡ false) → ReadsOne (on_frame h was body).says
      → Fits (busy was.doing) (busy (session_took size (on_frame h was body).kind was (frames a c (on_frame h was body).says) body).doing)
      (answers_in (on_frame h was body).says) (one_if (is_request (message_in body))) (sends_all c (frames a c (on_frame h was body).says)).opened
  frame_fits Opening n s read = absurd (n refl)
  frame_fits Closing n s read = let shut : c.opened ≡ false = s refl in record { within = omega arith; turn = λ o. absurd (cc) }
  frame_fits (Bytes k) n s read =
      subst (λ q. Fits (busy was.doing) (busy (took_bytes k was.doing)) (answers_in (on_frame h was (Bytes k)).says) (one_if (is_request q)) (sends_all c (frames a c (on_frame h was (Bytes k)).says)).opened) (sym (said_bytes k))
      (counts_fit false was.doing (took_bytes k was.doing) a c (on_frame h was (Bytes k)).says read (took_calm k was.doing) (bytes_counts h k was.doing))
  frame_fits (Line text) n s read =
      subst (λ q. Fits (busy was.doing) (busy (took_message size (on_text h was (message_of text)).kind was (message_said (frames a c (on_text h was (message_of text)).says)) (message_of text)).doing)
      (answers_in (on_text h was (message_of text)).says) (one_if (is_request q)) (sends_all c (frames a c (on_text h was (message_of text)).says)).opened) (sym (said_line-is text))
      (text_fits (message_of text) read)

-- ---- what is given unasked

gave_busy : (n : ℕ) (was : Doing) → busy (gave_bytes n was) ≡ busy was
gave_busy n (Gives key at left good) = refl
gave_busy n Waits = refl
gave_busy n (Guards hold key) = refl
gave_busy n Gave = refl
gave_busy n (Wants key size) = refl
gave_busy n (Takes key size left) = refl
gave_busy n (Took key size) = refl

word_answers : (m : Message) → (m ≡ Valid) ⊎ (m ≡ Invalid) → is_answer (message_in (Line (text_of m))) ≡ true
word_answers m (inl x) = rw x (ap is_answer (said_line-is (text_of Valid)))
word_answers m (inr x) = rw x (ap is_answer (said_line-is (text_of Invalid)))

pub pieces_fit : (was : Session) (a : EndName) (c : End) (says : List FrameText) → GivesOne was.doing says
    → Fits (busy was.doing) (busy (sent_more was (frames a c says)).doing) (answers_in says) 0 (sends_all c (frames a c says)).opened
pieces_fit was a c says x = go x.1
  where
    b : busy was.doing ≡ 1
    b = ap (λ d. if d then 0 else 1) x.0

    go : Pieces was.doing says → Fits (busy was.doing) (busy (sent_more was (frames a c says)).doing) (answers_in says) 0 (sends_all c (frames a c says)).opened
    go (inl y) = closes_fit a c says (busy was.doing) (busy (sent_more was (frames a c says)).doing) 0 (inl y)
    go (inr (inl y)) =
        let none : answers_in says ≡ 0 = rw y.1 (rw (said_bytes y.0) refl) in
        let b' : busy (sent_more was (frames a c says)).doing ≡ busy was.doing = ap (λ s. busy (sent_more was (frames a c s)).doing) y.1 ∙ gave_busy y.0 was.doing in
        record { within = omega (arith, none); turn = λ o. omega (arith, none, b') }
    go (inr (inr y)) =
        let one : answers_in says ≡ 1 = rw y.1 (rw (word_answers y.0 y.2) refl) in
        let b' : busy (sent_more was (frames a c says)).doing ≡ 0 = ap (λ s. busy (sent_more was (frames a c s)).doing) y.1 in
        record { within = omega (arith, one, b); turn = λ o. omega (arith, one, b, b') }
