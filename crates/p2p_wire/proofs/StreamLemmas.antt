-- What an answer of a decoder shows of the bytes at hand.
use Rattle.std.proofs.Common.{◌≡◌, inl, inr, ℕ, zero, suc, get_or, ◌+◌, ◌≤◌, ◌<◌, List, [], ◌∷◌, ◌++◌, length, take, drop, Option, Some, None, refl, sym, ap, ◌∙◌, subst, arith}
use Rattle.std.specs.Prelude.{◌==◌, nat_lt}
use Rattle.std.specs.List.{before_first, after_first, Contains}
use Rattle.std.proofs.lemmas.Bool.{eqb-true, eqb-false}
use Rattle.std.proofs.lemmas.List.Sums.{split_at_first, passes_at_first, fails_before_first}
use Rattle.std.proofs.lemmas.Bool.Decides.{nat_tests}
use Rattle.std.proofs.lemmas.List.{append_assoc, drop_at, length-append, length-take, length-take-le, get_or-take}
use Rattle.annex_base.specs.Lines.{is_newline, newline}
use Rattle.annex_base.proofs.Conditions.{if_is}
use Rattle.p2p_wire.specs.declared.message.Message.{Message}
use Rattle.p2p_wire.specs.declared.decoder.Why.{Why}
use Rattle.p2p_wire.specs.Messages.{message_of, text_of}
use Rattle.p2p_wire.specs.Streams.{DecoderView, Says, Gives, Refuses, next_answer, unread_told, line_told, raw_told, whole_line, line_len, line_of, IsLine}
use Rattle.p2p_wire.proofs.BufferLemmas.{line_within}
use Rattle.p2p_wire.proofs.LineFacts.{line_again}

-- no newline stands before the first
no_first : (bytes : List ℕ) → Contains (before_first is_newline bytes) newline → ⊥
no_first bytes found =
    let long : length (before_first is_newline bytes) ≡ line_len bytes = length-take-le (line_len bytes) bytes (line_within bytes) in
    let among : found.0 < line_len bytes = omega (arith, found.1, long) in
    let fails = fails_before_first is_newline bytes found.0 newline among in
    let same : get_or (before_first is_newline bytes) found.0 newline ≡ get_or bytes found.0 newline = get_or-take (line_len bytes) bytes found.0 newline among in
    eqb-false (get_or bytes found.0 newline) newline fails (sym same ∙ found.2)

take_front : (n : ℕ) (bytes : List ℕ) → take n bytes ++ drop (length (take n bytes)) bytes ≡ bytes
take_front zero bytes = refl
take_front (suc n) [] = refl
take_front (suc n) (b ∷ bytes) = ap (λ xs. b ∷ xs) (take_front n bytes)

whole_says : (place : ℕ) (o : Option Message) (m : Message) → whole_line place o ≡ Says m → o ≡ Some m
whole_says place None m e = absurd cc
whole_says place (Some x) m e = cc

whole_gives : (place : ℕ) (o : Option Message) (raw : List ℕ) → whole_line place o ≡ Gives raw → ⊥
whole_gives place None raw e = cc
whole_gives place (Some x) raw e = cc

raw_says : (xs : List ℕ) (m : Message) → raw_told xs ≡ Says m → ⊥
raw_says [] m e = cc
raw_says (x ∷ xs) m e = cc

raw_gives : (xs raw : List ℕ) → raw_told xs ≡ Gives raw → xs ≡ raw
raw_gives [] raw e = absurd cc
raw_gives (x ∷ xs) raw e = cc

line_gives : (place : ℕ) (bytes raw : List ℕ) → line_told place bytes ≡ Gives raw → ⊥
line_gives place bytes raw e = elim (if_is (nat_lt 8192 (line_len bytes)) _ _ _ e) [
  | inl long ↦ let no = long.1 in cc
  | inr short ↦ elim (if_is (line_len bytes == length bytes) _ _ _ short.1) [
    | inl open' ↦ let no = open'.1 in cc
    | inr whole ↦ whole_gives place (message_of (before_first is_newline bytes)) raw whole.1
  ]
]

line_says : (place : ℕ) (bytes : List ℕ) (m : Message) → line_told place bytes ≡ Says m → (line_len bytes < length bytes) × (message_of (before_first is_newline bytes) ≡ Some m)
line_says place bytes m e = elim (if_is (nat_lt 8192 (line_len bytes)) _ _ _ e) [
  | inl long ↦ absurd (let no = long.1 in cc)
  | inr short ↦ elim (if_is (line_len bytes == length bytes) _ _ _ short.1) [
    | inl open' ↦ absurd (let no = open'.1 in cc)
    | inr whole ↦ let within = line_within bytes in let other = whole.0 in (grind (arith, nat_tests), whole_says place (message_of (before_first is_newline bytes)) m whole.1)
  ]
]

-- a message: no raw bytes are to come, and its line is at hand with its newline
pub record IsSaid (u : DecoderView) (m : Message) : Type 0 where
  pub sound : u.fault ≡ None
  pub none_left : u.left ≡ 0
  pub within : line_len u.bytes < length u.bytes
  pub line : before_first is_newline u.bytes ≡ text_of m
  pub read : message_of (text_of m) ≡ Some m

is_said : (u : DecoderView) (m : Message) → u.fault ≡ None → u.left ≡ 0 → (line_len u.bytes < length u.bytes) × (message_of (before_first is_newline u.bytes) ≡ Some m) → IsSaid u m
is_said u m sound none parts =
    let same : text_of m ≡ before_first is_newline u.bytes = line_again (before_first is_newline u.bytes) m parts.1 in
    record { sound = sound; none_left = none; within = parts.0; line = sym same; read = ap message_of same ∙ parts.1 }

pub told_says : (u : DecoderView) (m : Message) → next_answer u ≡ Says m → IsSaid u m
told_says u m e = go u.fault refl e
  where
    go : (f : Option Why) → u.fault ≡ f → unread_told u f ≡ Says m → IsSaid u m
    go (Some why) is other = absurd cc
    go None is h = elim (if_is (u.left == 0) _ _ _ h) [
      | inl none ↦ let left = none.0 in is_said u m is (grind (arith, nat_tests)) (line_says u.place u.bytes m none.1)
      | inr some ↦ absurd (raw_says (take u.left u.bytes) m some.1)
    ]

pub told_gives : (u : DecoderView) (raw : List ℕ) → next_answer u ≡ Gives raw → (u.fault ≡ None) × (take u.left u.bytes ≡ raw)
told_gives u raw e = go u.fault refl e
  where
    go : (f : Option Why) → u.fault ≡ f → unread_told u f ≡ Gives raw → (u.fault ≡ None) × (take u.left u.bytes ≡ raw)
    go (Some why) is other = absurd cc
    go None is h = elim (if_is (u.left == 0) _ _ _ h) [
      | inl none ↦ absurd (line_gives u.place u.bytes raw none.1)
      | inr some ↦ (is, raw_gives (take u.left u.bytes) raw some.1)
    ]

-- how long the line of the message is
pub said_len : (u : DecoderView) (m : Message) → next_answer u ≡ Says m → line_len u.bytes + 1 ≡ length (line_of m)
said_len u m e =
    let s = told_says u m e in
    let long : length (before_first is_newline u.bytes) ≡ line_len u.bytes = length-take-le (line_len u.bytes) u.bytes (line_within u.bytes) in
    let both : length (text_of m ++ newline ∷ []) ≡ length (text_of m) + 1 = length-append (text_of m) (newline ∷ []) in
    let same : length (before_first is_newline u.bytes) ≡ length (text_of m) = ap length s.line in
    omega (arith, long, both, same)

-- raw bytes are at hand, and to come
pub given_len : (u : DecoderView) (raw : List ℕ) → next_answer u ≡ Gives raw → (length raw ≤ length u.bytes) × (length raw ≤ u.left)
given_len u raw e =
    let same : length (take u.left u.bytes) ≡ length raw = ap length (told_gives u raw e).1 in
    let long = length-take u.left u.bytes in
    (omega (arith, same, long), omega (arith, same, long))

line_refuses : (place : ℕ) (bytes : List ℕ) (at : ℕ) (why : Why) → line_told place bytes ≡ Refuses at why → at ≡ place
line_refuses place bytes at why e = elim (if_is (nat_lt 8192 (line_len bytes)) _ _ _ e) [
  | inl long ↦ let is = long.1 in cc
  | inr short ↦ elim (if_is (line_len bytes == length bytes) _ _ _ short.1) [
    | inl open' ↦ absurd (let other = open'.1 in cc)
    | inr whole ↦ go (message_of (before_first is_newline bytes)) whole.1
  ]
]
  where
    go : (o : Option Message) → whole_line place o ≡ Refuses at why → at ≡ place
    go None is = cc
    go (Some m) is = absurd cc

raw_refuses : (xs : List ℕ) (at : ℕ) (why : Why) → raw_told xs ≡ Refuses at why → ⊥
raw_refuses [] at why e = cc
raw_refuses (x ∷ xs) at why e = cc

-- a refusal where there was no fault yet is that of a line
pub told_refuses : (u : DecoderView) (at : ℕ) (why : Why) → u.fault ≡ None → next_answer u ≡ Refuses at why → (at ≡ u.place) × (line_told u.place u.bytes ≡ Refuses u.place why)
told_refuses u at why sound e = elim (if_is (u.left == 0) _ _ _ (sym (ap (unread_told u) sound) ∙ e)) [
  | inl none ↦ let is = line_refuses u.place u.bytes at why none.1 in (is, none.1 ∙ ap (λ p. Refuses p why) is)
  | inr some ↦ absurd (raw_refuses (take u.left u.bytes) at why some.1)
]

-- the line of a message that is given, and its newline, stand before what is left
pub said_bytes : (u : DecoderView) (m : Message) → next_answer u ≡ Says m → line_of m ++ drop (length (line_of m)) u.bytes ≡ u.bytes
said_bytes u m e =
    let s = told_says u m e in
    let cut = split_at_first is_newline u.bytes newline s.within in
    let stop : get_or u.bytes (line_len u.bytes) newline ≡ newline = eqb-true (get_or u.bytes (line_len u.bytes) newline) newline (passes_at_first is_newline u.bytes newline s.within) in
    let whole : u.bytes ≡ line_of m ++ after_first is_newline u.bytes =
    cut ∙ ap (λ (front : List ℕ). front ++ get_or u.bytes (line_len u.bytes) newline ∷ after_first is_newline u.bytes) s.line
    ∙ ap (λ (b : ℕ). text_of m ++ b ∷ after_first is_newline u.bytes) stop
    ∙ sym (append_assoc (text_of m) (newline ∷ []) (after_first is_newline u.bytes)) in
    ap (λ (rest : List ℕ). line_of m ++ rest) (ap (drop (length (line_of m))) whole ∙ drop_at (line_of m) (after_first is_newline u.bytes) (length (line_of m)) refl) ∙ sym whole

-- so it has no newline
pub said_line : (u : DecoderView) (m : Message) → next_answer u ≡ Says m → IsLine m
said_line u m e =
    let s = told_says u m e in
    (s.read, λ found. let k : Contains (before_first is_newline u.bytes) newline = subst (λ (text : List ℕ). Contains text newline) (sym s.line) found in no_first u.bytes k)

-- raw bytes that are given stand before what is left
pub given_bytes : (u : DecoderView) (raw : List ℕ) → next_answer u ≡ Gives raw → raw ++ drop (length raw) u.bytes ≡ u.bytes
given_bytes u raw e =
    let is = (told_gives u raw e).1 in
    let front = take_front u.left u.bytes in
    subst (λ (xs : List ℕ). xs ++ drop (length xs) u.bytes ≡ u.bytes) is front
