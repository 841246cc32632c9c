-- When each answer of a decoder comes.
use Rattle.std.proofs.Common.{◌≡◌, inl, inr, ℕ, zero, suc, get_or, ◌+◌, ◌≤◌, ◌<◌, Bool, true, false, List, [], ◌∷◌, ◌++◌, length, take, drop, Option, Some, None, refl, sym, ap, ◌∙◌, subst, arith}
use Rattle.std.specs.Prelude.{◌==◌, ◌↔◌, nat_lt, if◌then◌else◌}
use Rattle.std.specs.List.{before_first, after_first}
use Rattle.std.proofs.lemmas.Bool.{eqb-true, eqb-false}
use Rattle.std.proofs.lemmas.Bool.Decides.{nat_tests}
use Rattle.std.proofs.lemmas.List.{append_assoc, length-append, length-take, length-take-le, get_or-take, take_at, take-append-drop}
use Rattle.std.proofs.lemmas.List.Sums.{split_at_first, passes_at_first, fails_before_first}
use Rattle.std.proofs.Math.Seq.{take-length}
use Rattle.annex_base.specs.Lines.{is_newline, newline, IsOneLine}
use Rattle.p2p_wire.specs.declared.message.Message.{Message}
use Rattle.p2p_wire.specs.declared.decoder.Why.{Why}
use Rattle.p2p_wire.specs.declared.decoder.Why.TheVariants.{NotAMessage, TooLong}
use Rattle.p2p_wire.specs.Messages.{message_of, text_of}
use Rattle.p2p_wire.specs.Answers.{Answers, HasLine, HasLongLine, HasRaw, NeedsMore}
use Rattle.p2p_wire.specs.Streams.{DecoderView, DecoderAnswer, Says, Gives, Waits, Refuses, next_answer, after, after_told, unread_told, line_told, raw_told, whole_line, line_len, line_of}
use Rattle.p2p_wire.proofs.BufferLemmas.{line_within, line_grows}
use Rattle.p2p_wire.proofs.StreamLemmas.{told_says, told_gives, said_bytes, said_line}
use Rattle.p2p_wire.proofs.DecodeLemmas.{IsClear, clear_len, clear_text, clear_whole, line_comes, line_waits, raw_gives, read_short, told_at_line, told_at_raw}

-- no newline stands in a front that isn't longer than the first line
clear_before : (n : ℕ) (bytes : List ℕ) → n ≤ line_len bytes → IsOneLine (take n bytes)
clear_before n bytes low found =
    let long = length-take n bytes in
    let among : found.0 < n = omega (arith, found.1, long) in
    let fails = fails_before_first is_newline bytes found.0 newline (omega (arith, among, low)) in
    let same : get_or (take n bytes) found.0 newline ≡ get_or bytes found.0 newline = get_or-take n bytes found.0 newline among in
    eqb-false (get_or bytes found.0 newline) newline fails (sym same ∙ found.2)

clear_by_len : (bytes : List ℕ) → line_len bytes ≡ length bytes → IsOneLine bytes
clear_by_len bytes same = subst IsOneLine (take-length bytes) (clear_before (length bytes) bytes (omega (arith, same)))

-- the first line, where its newline is at hand
first_line : (bytes : List ℕ) → line_len bytes < length bytes → bytes ≡ before_first is_newline bytes ++ newline ∷ after_first is_newline bytes
first_line bytes within =
    split_at_first is_newline bytes newline within
    ∙ ap (λ (b : ℕ). before_first is_newline bytes ++ b ∷ after_first is_newline bytes)
    (eqb-true (get_or bytes (line_len bytes) newline) newline (passes_at_first is_newline bytes newline within))

-- ---- where a line comes next

-- what an answer there shows
abbrev LineShows : ℕ → List ℕ → DecoderAnswer → Type 0
LineShows place bytes (Says m) = (line_len bytes < length bytes) × (message_of (before_first is_newline bytes) ≡ Some m)
LineShows place bytes (Gives raw) = ⊥
LineShows place bytes Waits = (line_len bytes ≡ length bytes) × (length bytes ≤ 8192)
LineShows place bytes (Refuses at NotAMessage) = (at ≡ place) × (line_len bytes ≤ 8192) × (line_len bytes < length bytes) × (message_of (before_first is_newline bytes) ≡ None)
LineShows place bytes (Refuses at TooLong) = (at ≡ place) × (8192 < line_len bytes)

line_shows : (place : ℕ) (bytes : List ℕ) → LineShows place bytes (line_told place bytes)
line_shows place bytes = go (nat_lt 8192 (line_len bytes)) (line_len bytes == length bytes) (message_of (before_first is_newline bytes)) refl refl refl
  where
    go : (a b : Bool) (o : Option Message) → nat_lt 8192 (line_len bytes) ≡ a → (line_len bytes == length bytes) ≡ b → message_of (before_first is_newline bytes) ≡ o
        → LineShows place bytes (if a then Refuses place TooLong else if b then Waits else whole_line place o)
    go true b o long same read = (refl, grind (arith, nat_tests))
    go false true o long same read = let is : line_len bytes ≡ length bytes = eqb-true (line_len bytes) (length bytes) same in (is, grind (arith, nat_tests))
    go false false (Some m) long same read = (let within = line_within bytes in grind (arith, nat_tests), read)
    go false false None long same read = (refl, grind (arith, nat_tests), (let within = line_within bytes in grind (arith, nat_tests)), read)

line_is : (place : ℕ) (bytes : List ℕ) (t : DecoderAnswer) → line_told place bytes ≡ t → LineShows place bytes t
line_is place bytes t e = subst (LineShows place bytes) e (line_shows place bytes)

-- a whole line that is no message
line_fails : (place : ℕ) (text rest : List ℕ) → IsClear text → length text ≤ 8192 → message_of text ≡ None → line_told place (text ++ newline ∷ rest) ≡ Refuses place NotAMessage
line_fails place text rest clear short read =
    let whole : line_len (text ++ newline ∷ rest) ≡ length text = clear_len text rest clear in
    let long : length (text ++ newline ∷ rest) ≡ length text + length (newline ∷ rest) = length-append text (newline ∷ rest) in
    let front : before_first is_newline (text ++ newline ∷ rest) ≡ text = take_at text (newline ∷ rest) (line_len (text ++ newline ∷ rest)) (sym whole) in
    let fits : nat_lt 8192 (line_len (text ++ newline ∷ rest)) ≡ false = rw whole (grind (arith, nat_tests)) in
    let more : (line_len (text ++ newline ∷ rest) == length (text ++ newline ∷ rest)) ≡ false = rw (whole, long) (grind (arith, nat_tests)) in
    rw (fits, more) (ap (whole_line place) (ap message_of front ∙ read))

-- one that is too long
line_long : (place : ℕ) (bytes : List ℕ) → 8192 < length bytes → IsOneLine (take 8193 bytes) → line_told place bytes ≡ Refuses place TooLong
line_long place bytes many one =
    let cut : length (take 8193 bytes) ≡ 8193 = length-take-le 8193 bytes (omega (arith, many)) in
    let clear : line_len (take 8193 bytes) ≡ length (take 8193 bytes) = clear_whole (take 8193 bytes) (clear_text (take 8193 bytes) one) in
    let grows : line_len (take 8193 bytes) ≤ line_len bytes = subst (λ (xs : List ℕ). line_len (take 8193 bytes) ≤ line_len xs) (take-append-drop 8193 bytes) (line_grows (take 8193 bytes) (drop 8193 bytes)) in
    let low : 8192 < line_len bytes = omega (arith, cut, clear, grows) in
    let is : nat_lt 8192 (line_len bytes) ≡ true = grind (arith, nat_tests) in
    rw is refl

-- ---- each answer

-- a line or raw bytes come next
next : {P : Type 0} (u : DecoderView) → (u.left ≡ 0 → P) → (0 < u.left → (u.left == 0) ≡ false → P) → P
next {P} u line raw = go (u.left == 0) refl
  where
    go : (b : Bool) → (u.left == 0) ≡ b → P
    go true is = line (eqb-true u.left 0 is)
    go false is = raw (grind (arith, nat_tests)) is

at_line : (u : DecoderView) (t : DecoderAnswer) → u.fault ≡ None → u.left ≡ 0 → next_answer u ≡ t → LineShows u.place u.bytes t
at_line u t sound none e = line_is u.place u.bytes t (sym (told_at_line u sound none) ∙ e)

raw_waits : (xs : List ℕ) → raw_told xs ≡ Waits → xs ≡ []
raw_waits [] e = refl
raw_waits (x ∷ xs) e = absurd cc

raw_some : (xs raw : List ℕ) → raw_told xs ≡ Gives raw → 0 < length raw
raw_some [] raw e = absurd cc
raw_some (x ∷ xs) raw e = let same : raw ≡ x ∷ xs = cc in rw same (omega arith)

raw_bad : (xs : List ℕ) (at : ℕ) (why : Why) → raw_told xs ≡ Refuses at why → ⊥
raw_bad [] at why e = cc
raw_bad (x ∷ xs) at why e = cc

none_taken : (n : ℕ) (bytes : List ℕ) → 0 < n → take n bytes ≡ [] → bytes ≡ []
none_taken zero bytes some e = absurd (omega (arith, some))
none_taken (suc n) [] some e = refl
none_taken (suc n) (b ∷ bytes) some e = absurd cc

more : (u : DecoderView) → u.fault ≡ None → (next_answer u ≡ Waits) ↔ NeedsMore u
more u sound = (
  λ e. next u
      (λ none. let s = at_line u Waits sound none e in inl (none, clear_by_len u.bytes s.0, s.1))
      (λ some is. inr (some, none_taken u.left u.bytes some (raw_waits (take u.left u.bytes) (sym (told_at_raw u sound is) ∙ e)))),
  λ needs. elim needs [
    | inl line ↦ told_at_line u sound line.0 ∙ line_waits u.place u.bytes (clear_text u.bytes line.1) line.2
    | inr raw ↦ let is : (u.left == 0) ≡ false = let low = raw.0 in grind (arith, nat_tests) in told_at_raw u sound is ∙ ap (λ (xs : List ℕ). raw_told (take u.left xs)) raw.1 ∙ go u.left
  ],
)
  where
    go : (n : ℕ) → raw_told (take n []) ≡ Waits
    go zero = refl
    go (suc n) = refl

raws : (u : DecoderView) → u.fault ≡ None → (raw : List ℕ) → (next_answer u ≡ Gives raw) ↔ HasRaw u raw
raws u sound raw = (
  λ e. next u
      (λ none. absurd (at_line u (Gives raw) sound none e))
      (λ some is. (raw_some (take u.left u.bytes) raw (sym (told_at_raw u sound is) ∙ e), sym (told_gives u raw e).1)),
  λ has. next u
      (λ none. absurd (let few : length raw ≡ 0 = ap length has.1 ∙ ap (λ n. length (take n u.bytes)) none in let low = has.0 in omega (arith, few, low)))
      (λ some is. told_at_raw u sound is ∙ ap raw_told (sym has.1) ∙ raw_gives raw (λ empty. let few : length raw ≡ 0 = ap length empty in let low = has.0 in omega (arith, few, low))),
)

says : (u : DecoderView) → u.fault ≡ None → (m : Message) → (next_answer u ≡ Says m) ↔ (HasLine u (text_of m) × (message_of (text_of m) ≡ Some m))
says u sound m = (
  λ e.
      let s = told_says u m e in (
        record {
          none_left = s.none_left;
          one_line = (said_line u m e).1;
          rest = drop (length (line_of m)) u.bytes;
          at_hand = sym (said_bytes u m e) ∙ append_assoc (text_of m) (newline ∷ []) (drop (length (line_of m)) u.bytes);
        },
        s.read,
      ),
  λ has. told_at_line u sound has.0.none_left ∙ ap (line_told u.place) has.0.at_hand
      ∙ line_comes u.place (text_of m) has.0.rest m (clear_text (text_of m) has.0.one_line) (read_short (text_of m) m has.1) has.1,
)

bad : (u : DecoderView) → u.fault ≡ None → (at : ℕ) → (next_answer u ≡ Refuses at NotAMessage) ↔ ((at ≡ u.place) × ((text : List ℕ) × HasLine u text × (length text ≤ 8192) × (message_of text ≡ None)))
bad u sound at = (
  λ e. next u
      (λ none.
      let s = at_line u (Refuses at NotAMessage) sound none e in
      let short : length (before_first is_newline u.bytes) ≡ line_len u.bytes = length-take-le (line_len u.bytes) u.bytes (line_within u.bytes) in (
        s.0,
        (
          before_first is_newline u.bytes,
          record {
            none_left = none;
            one_line = clear_before (line_len u.bytes) u.bytes (omega arith);
            rest = after_first is_newline u.bytes;
            at_hand = first_line u.bytes s.2;
          },
          (let low = s.1 in omega (arith, short, low)),
          s.3,
        ),
      ))
      (λ some is. absurd (raw_bad (take u.left u.bytes) at NotAMessage (sym (told_at_raw u sound is) ∙ e))),
  λ has. told_at_line u sound has.1.1.none_left ∙ ap (line_told u.place) has.1.1.at_hand
      ∙ line_fails u.place has.1.0 has.1.1.rest (clear_text has.1.0 has.1.1.one_line) has.1.2 has.1.3 ∙ ap (λ n. Refuses n NotAMessage) (sym has.0),
)

long : (u : DecoderView) → u.fault ≡ None → (at : ℕ) → (next_answer u ≡ Refuses at TooLong) ↔ ((at ≡ u.place) × HasLongLine u)
long u sound at = (
  λ e. next u
      (λ none.
      let s = at_line u (Refuses at TooLong) sound none e in
      let low = s.1 in
      let within = line_within u.bytes in
      (s.0, (none, omega (arith, low, within), clear_before 8193 u.bytes (omega (arith, low)))))
      (λ some is. absurd (raw_bad (take u.left u.bytes) at TooLong (sym (told_at_raw u sound is) ∙ e))),
  λ has. told_at_line u sound has.1.0 ∙ line_long u.place u.bytes has.1.1 has.1.2 ∙ ap (λ n. Refuses n TooLong) (sym has.0),
)

again : (u : DecoderView) (why : Why) → u.fault ≡ Some why → (next_answer u ≡ Refuses u.place why) × (after u ≡ u)
again u why is =
    let says' : next_answer u ≡ Refuses u.place why = ap (unread_told u) is in
    (says', ap (after_told u) says' ∙ ap (λ (f : Option Why). record { place = u.place; left = u.left; bytes = u.bytes; fault = f }) (sym is))

-- **each answer comes exactly then**
pub exact : (u : DecoderView) → Answers u
exact u = record { more = more u; raw = raws u; line = says u; bad = bad u; long = long u; again = again u }
