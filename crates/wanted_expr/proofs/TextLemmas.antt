-- The pieces of a UTF-8 text are UTF-8.
use Rattle.std.proofs.Common.{◌≡◌, ℕ, suc, ◌+◌, ◌<◌, ◌≤◌, ◌==◌, true, false, List, [], ◌∷◌, ◌++◌, length, get_or, drop, Option, Some, None, Ok, Err, refl, sym, ap, subst, ◌∙◌, arith, length-append, append-nil}
use Rattle.std.specs.Prelude.{if◌then◌else◌, ◌-◌, codes, nat_lt}
use Rattle.std.specs.Char.{IsScalar}
use Rattle.std.specs.Str.{IsUtf8, IsCharBoundary, is_utf8}
use Rattle.std.proofs.lemmas.Bool.{and_parts, eqb-true, ne_eqb}
use Rattle.std.proofs.lemmas.Str.{IsUtf8-append, IsUtf8-encode, IsUtf8-nil, IsUtf8-from_is_utf8, is_utf8-from_IsUtf8, IsUtf8-past_char, IsUtf8-drop, IsCharBoundary-after_ascii, encode_ascii, inside_one}
use Rattle.std.proofs.Math.Seq.{drop-append_seam}
use Rattle.annex_base.proofs.Conditions.{by_test, if_either}
use lib.Utf8.{encode, encodes, scalar, scalars}
use Rattle.wanted_expr.proofs.TokenLemmas.{byte_on}
use Rattle.wanted_expr.specs.Pieces.{Piece, Opening, Closing, PieceRead, WordRead, IsTextPiece, after_bytes, after_spaces, as_piece, ends_word, piece_at, piece_here, word_at}

-- the bytes of a character past ASCII are none of ASCII
abbrev IsHigh : List ℕ → Type 0
IsHigh xs = (k : ℕ) → k < length xs → 128 ≤ get_or xs k 0

high_char : (c : ℕ) → 128 ≤ c → IsHigh (encode c)
high_char c high k within =
    by_test (nat_lt (get_or (encode c) k 0) 128)
    (λ t. let low : get_or (encode c) k 0 < 128 = grind arith in let same : c ≡ get_or (encode c) k 0 = inside_one c [] (encode c) k (sym (append-nil (encode c))) within low in absurd (omega (arith, high, low, same)))
    (λ t. let k : 128 ≤ get_or (encode c) k 0 = grind arith in k)

no_end : (b : ℕ) → 128 ≤ b → ends_word b ≡ false
no_end b high = rw (ne_eqb b 32 (λ e. omega (arith, e, high)), ne_eqb b 40 (λ e. omega (arith, e, high)), ne_eqb b 41 (λ e. omega (arith, e, high))) refl

high_on : (total : ℕ) (quote : Option ℕ) (hs bs : List ℕ) → IsHigh hs → word_at total quote (hs ++ bs) ≡ after_bytes hs (word_at total quote bs)
high_on total quote [] bs h = nothing_before (word_at total quote bs)
  where
    nothing_before : (r : WordRead) → r ≡ after_bytes [] r
    nothing_before (Ok x) = refl
    nothing_before (Err at) = refl
high_on total quote (b ∷ hs) bs h =
    let here : 128 ≤ b = h 0 (omega arith) in
    byte_on total quote b (hs ++ bs) (ne_eqb b 34 (λ e. omega (arith, e, here))) (λ n. no_end b here)
    ∙ (ap (after_bytes (b ∷ [])) (high_on total quote hs bs (λ k within. h (suc k) (omega arith))) ∙ both (word_at total quote bs))
  where
    both : (r : WordRead) → after_bytes (b ∷ []) (after_bytes hs r) ≡ after_bytes (b ∷ hs) r
    both (Ok x) = refl
    both (Err at) = refl

-- a word and what follows it are UTF-8
abbrev AreText : WordRead → Type 0
AreText (Ok x) = IsUtf8 x.0 × IsUtf8 x.1
AreText (Err at) = Unit {0}

with_front : (front : List ℕ) (r : WordRead) → IsUtf8 front → AreText r → AreText (after_bytes front r)
with_front front (Ok x) u h = (IsUtf8-append front x.0 u h.0, h.1)
with_front front (Err at) u h = tt

scalar_parts : (c : ℕ) (cs : List ℕ) → scalars (c ∷ cs) ≡ true → IsScalar c × (scalars cs ≡ true)
scalar_parts c cs s = and_parts (scalar c) (scalars cs) s

low_word : (total : ℕ) (quote : Option ℕ) (c : ℕ) (bs : List ℕ) → IsUtf8 (c ∷ []) → IsUtf8 (c ∷ bs) → ((q : Option ℕ) → AreText (word_at total q bs)) → AreText (word_at total quote (c ∷ bs))
low_word total None c bs one all later =
    if_either AreText (ends_word c) (Ok ([], c ∷ bs)) (if c == 34 then word_at total (Some (total - length (c ∷ bs))) bs else after_bytes (c ∷ []) (word_at total None bs))
    (λ e. (IsUtf8-nil, all))
    (λ e. if_either AreText (c == 34) (word_at total (Some (total - length (c ∷ bs))) bs) (after_bytes (c ∷ []) (word_at total None bs)) (λ q. later (Some (total - length (c ∷ bs)))) (λ q. with_front (c ∷ []) (word_at total None bs) one (later None)))
low_word total (Some at) c bs one all later =
    if_either AreText (c == 34) (word_at total None bs) (after_bytes (c ∷ []) (word_at total (Some at) bs)) (λ q. later None) (λ q. with_front (c ∷ []) (word_at total (Some at) bs) one (later (Some at)))

word_text : (total : ℕ) (quote : Option ℕ) (cs : List ℕ) → scalars cs ≡ true → AreText (word_at total quote (encodes cs))
word_text total None [] s = (IsUtf8-nil, IsUtf8-nil)
word_text total (Some at) [] s = tt
word_text total quote (c ∷ cs) s =
    let k = scalar_parts c cs s in
    by_test (nat_lt c 128)
    (λ t.
    let low : c < 128 = grind arith in
    let plain : encodes (c ∷ cs) ≡ c ∷ encodes cs = ap (λ (w : List ℕ). w ++ encodes cs) (encode_ascii c low) in
    subst (λ (w : List ℕ). AreText (word_at total quote w)) (sym plain)
    (low_word total quote c (encodes cs) (subst IsUtf8 (encode_ascii c low) (IsUtf8-encode c k.0)) (c ∷ cs, (s, plain)) (λ q. word_text total q cs k.1)))
    (λ t.
    let high : 128 ≤ c = grind arith in
    subst AreText (sym (high_on total quote (encode c) (encodes cs) (high_char c high)))
    (with_front (encode c) (word_at total quote (encodes cs)) (IsUtf8-encode c k.0) (word_text total quote cs k.1)))

past : (b c : ℕ) (bs : List ℕ) → (b == c) ≡ true → c < 128 → IsUtf8 (b ∷ bs) → IsUtf8 bs
past b c bs e low u = IsUtf8-past_char (b ∷ bs) bs c u (ap (λ (x : ℕ). x ∷ bs) (eqb-true b c e) ∙ ap (λ (w : List ℕ). w ++ bs) (sym (encode_ascii c low)))

spaces_text : (bytes : List ℕ) → IsUtf8 bytes → IsUtf8 (after_spaces bytes)
spaces_text [] u = u
spaces_text (b ∷ bs) u = if_either IsUtf8 (b == 32) (after_spaces bs) (b ∷ bs) (λ e. spaces_text bs (past b 32 bs e (omega arith) u)) (λ e. u)

-- the first piece and what follows it are UTF-8
abbrev IsTextRead : PieceRead → Type 0
IsTextRead (Ok None) = Unit {0}
IsTextRead (Ok (Some x)) = IsTextPiece x.1 × IsUtf8 x.2
IsTextRead (Err at) = Unit {0}

word_read : (at : ℕ) (r : WordRead) → AreText r → IsTextRead (as_piece at r)
word_read at (Ok x) h = (is_utf8-from_IsUtf8 x.0 h.0, h.1)
word_read at (Err quote) h = tt

here_text : (total : ℕ) (bytes : List ℕ) → IsUtf8 bytes → IsTextRead (piece_here total bytes)
here_text total [] u = tt
here_text total (b ∷ bs) u =
    let at = total - length (b ∷ bs) in
    if_either IsTextRead (b == 40) (Ok (Some (at, Opening, bs))) (if b == 41 then Ok (Some (at, Closing, bs)) else as_piece at (word_at total None (b ∷ bs)))
    (λ e. (tt, past b 40 bs e (omega arith) u))
    (λ e. if_either IsTextRead (b == 41) (Ok (Some (at, Closing, bs))) (as_piece at (word_at total None (b ∷ bs)))
    (λ f. (tt, past b 41 bs f (omega arith) u))
    (λ f. word_read at (word_at total None (b ∷ bs)) (subst (λ (w : List ℕ). AreText (word_at total None w)) u.1.1 (word_text total None u.0 u.1.0))))

pub piece_text : (total at : ℕ) (bytes after : List ℕ) (piece : Piece) → is_utf8 bytes ≡ true → piece_at total bytes ≡ Ok (Some (at, piece, after)) → IsTextPiece piece × (is_utf8 after ≡ true)
piece_text total at bytes after piece u e =
    let h : IsTextRead (Ok (Some (at, piece, after))) = subst IsTextRead e (here_text total (after_spaces bytes) (spaces_text bytes (IsUtf8-from_is_utf8 bytes u))) in
    (h.0, is_utf8-from_IsUtf8 after h.1)

-- ---- what stands behind a `=`

equals_at : (name value : List ℕ) → get_or ((name ++ codes "=") ++ value) (length name) 0 ≡ 61
equals_at [] value = refl
equals_at (b ∷ name) value = equals_at name value

pub value_text : (name value : List ℕ) → is_utf8 (name ++ codes "=" ++ value) ≡ true → is_utf8 value ≡ true
value_text name value u =
    let text = name ++ codes "=" ++ value in
    let all = IsUtf8-from_is_utf8 text u in
    let is = equals_at name value in
    let long : length text ≡ length name + 1 + length value = omega (arith, length-append (name ++ codes "=") value, length-append name (codes "=")) in
    let cut : IsCharBoundary text (length name + 1) = IsCharBoundary-after_ascii text (length name) all (omega (arith, long)) (omega (arith, is)) in
    let rest : drop (length name + 1) text ≡ value = ap (λ (n : ℕ). drop n text) (let e : length name + 1 ≡ length (name ++ codes "=") = omega (arith, length-append name (codes "=")) in e) ∙ drop-append_seam (name ++ codes "=") value in
    is_utf8-from_IsUtf8 value (subst IsUtf8 rest (IsUtf8-drop text (length name + 1) all cut))
