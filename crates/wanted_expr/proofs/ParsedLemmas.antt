-- What is read of a text from left to right is the formula that it spells.
use Rattle.std.proofs.Common.{◌≡◌, ◌↔◌, ◌⊎◌, inl, inr, ℕ, zero, suc, ◌-◌, ◌*◌, ◌<◌, ◌≤◌, ◌^◌, Bool, true, false, ◌&&◌, ◌==◌, nat_le, nat_lt, not, List, [], ◌∷◌, ◌++◌, length, take, drop, Option, Some, None, Result, Ok, Err, refl, sym, ap, subst, ◌∙◌, append-nil, arith, true≢false}
use Rattle.std.specs.Prelude.{bytes_eq, codes, if◌then◌else◌, option_map}
use Rattle.std.specs.Char.{is_ascii_digit}
use Rattle.std.specs.List.{list_all, prefix_len}
use Rattle.std.specs.Result.{result_ok}
use Rattle.std.specs.Str.{chars, is_utf8}
use Rattle.std.specs.Str.Parse.{digits_value}
use Rattle.std.proofs.lemmas.Bool.{and_from, and_parts, eqb-true, le-leb, leb-true, lt-ltb, ltb-true}
use Rattle.std.proofs.lemmas.List.{take-append-drop, take_at}
use Rattle.std.proofs.lemmas.Option.{none-some, same_Some}
use Rattle.std.proofs.lemmas.Slice.Eq.{bytes_eq-Decides}
use Rattle.annex_base.specs.Lists.{Each}
use Rattle.annex_base.proofs.Conditions.{by_test}
use Rattle.annex_base.proofs.Lists.{prefix_len-stops, prefix_len-whole}
use Rattle.annex_base.proofs.Options.{bind_some, option_or-was, where_some}
use Rattle.annex_base.specs.declared.kinds.Level.{Level}
use Rattle.annex_base.specs.declared.kinds.Level.TheVariants.{Dead, Untrusted, Semitrusted, Trusted}
use Rattle.glob_match.specs.declared.item.Item.{Item}
use Rattle.glob_match.specs.Glob.{IsGlob}
use Rattle.glob_match.specs.Spelled.{glob_in, items_from}
use Rattle.wanted_expr.specs.declared.data.Among.{Among}
use Rattle.wanted_expr.specs.declared.data.Among.TheVariants.{All, OfLevel, OfLevelOrMore, InGroup}
use Rattle.wanted_expr.specs.declared.data.Word.{Word}
use Rattle.wanted_expr.specs.declared.data.Word.TheVariants.{Anything, Nothing, Present, Include, Exclude, Copies, LackingCopies, InAllGroup, OnlyInGroup, InBackend, SecureHash, LargerThan, SmallerThan, Standard, GroupWanted}
use Rattle.wanted_expr.specs.declared.fault.ExprFault.{ExprFault}
use Rattle.wanted_expr.specs.declared.lexeme.Lexeme.{Lexeme}
use Rattle.wanted_expr.specs.declared.lexeme.Lexeme.TheVariants.{Open, Close, Not, Infix, Term}
use Rattle.wanted_expr.specs.declared.lexeme.Operator.TheVariants.{And, Or}
use Rattle.wanted_expr.specs.Expressions.{IsExpression, IsLexeme, Reads, is_operator}
use Rattle.wanted_expr.specs.Formula.{Formula}
use Rattle.wanted_expr.specs.Parsed
use Rattle.wanted_expr.specs.Parsed.{among_value, bare_words, colon_cut, copies_by, copies_value, count_value, cut_with, entry_of, formula_from, formula_in, glob_value, is_digits, levels, lexeme_of, name_cut, operators, size_value, sized, text_value, units, valued_word, valued_words, word_of}
use Rattle.wanted_expr.specs.Pieces.{Opening, Closing, Piece, PieceRead, WordRead, Written, after_bytes, after_spaces, as_piece, ends_word, piece_at, piece_here, word_at}
use Rattle.wanted_expr.specs.Reading.{Awaiting, Ends, State, finish, run, step}
use Rattle.wanted_expr.specs.Words.{Bytes, Gigabytes, IsAmong, IsBare, IsCopies, IsCount, IsDigits, IsGlobText, IsLevel, IsLevelOrMore, IsSize, IsText, IsValued, IsWord, Kilobytes, Megabytes, SizeUnit, unit_size, unit_text}
use Rattle.wanted_expr.proofs.CopiesLemmas.{colon_inside, digits_colonless, is_colonless, one_colon}
use Rattle.wanted_expr.proofs.ParseLemmas.{ends_expression, expression_ends}
use Rattle.wanted_expr.proofs.ReadLemmas.{run_bind}
use Rattle.wanted_expr.proofs.TokenLemmas.{no_space}
use Rattle.wanted_expr.proofs.UniqueLemmas.{no_operator}
use Rattle.annex_base.specs.ResultSteps.{◌>>=◌}
use Rattle.annex_base.proofs.Results.{err_ok, ok_err, ok_is}

-- the law of globs, as the lemmas take it
abbrev pub GlobsAreRead : Type 0
GlobsAreRead = (items : List Item) (text : List ℕ) → (items_from None text ≡ Some items) ↔ IsGlob items text

-- ---- tables

found_in : {X : Type 0} (P : List ℕ → X → Type 0) (table : List (List ℕ × X)) (text : List ℕ) (x : X) → Each (λ e. P e.0 e.1) table → entry_of table text ≡ Some x → P text x
found_in P [] text x all e = absurd (none-some x e)
found_in P (t ∷ ts) text x all e =
    by_test (bytes_eq t.0 text)
    (λ y. let e' : Some t.1 ≡ Some x = rw y at e in
    subst (λ z. P text z) (same_Some t.1 x e') (subst (λ w. P w t.1) ((bytes_eq-Decides t.0 text).0 y) all.0))
    (λ n. let e' : entry_of ts text ≡ Some x = rw n at e in found_in P ts text x all.1 e')

mapped : {A B : Type 0} (f : A → B) (o : Option A) (y : B) → option_map f o ≡ Some y → (x : A) × (o ≡ Some x) × (f x ≡ y)
mapped f None y e = absurd (none-some y e)
mapped f (Some x) y e = (x, refl, same_Some (f x) y e)

-- ---- values

text_sound : (v t : List ℕ) → text_value v ≡ Some t → IsText v t
text_sound [] t e = absurd (none-some t e)
text_sound (b ∷ bs) t e = (same_Some (b ∷ bs) t e, omega arith)

text_complete : (v t : List ℕ) → IsText v t → text_value v ≡ Some t
text_complete [] t is = absurd (omega (arith, is.1))
text_complete (b ∷ bs) t is = ap Some is.0

digits_sound : (text : List ℕ) → is_digits text ≡ true → IsDigits text
digits_sound text e = let k = and_parts (nat_lt 0 (length text)) (list_all is_ascii_digit text) e in record { some = ltb-true 0 (length text) k.0; digits = k.1 }

digits_complete : (text : List ℕ) → IsDigits text → is_digits text ≡ true
digits_complete text is = and_from (nat_lt 0 (length text)) (list_all is_ascii_digit text) (lt-ltb 0 (length text) is.some) is.digits

count_sound : (v : List ℕ) (n : ℕ) → count_value v ≡ Some n → IsCount v n
count_sound v n e =
    let w = where_some (is_digits v && nat_le (length v) 9) (Some (digits_value 10 v)) n e in
    let k = and_parts (is_digits v) (nat_le (length v) 9) w.0 in
    record { digits = digits_sound v k.0; short = leb-true (length v) 9 k.1; value = sym (same_Some (digits_value 10 v) n w.1) }

count_complete : (v : List ℕ) (n : ℕ) → IsCount v n → count_value v ≡ Some n
count_complete v n is = rw (digits_complete v is.digits, le-leb (length v) 9 is.short) (ap Some (sym is.value))

glob_sound : GlobsAreRead → (v : List ℕ) (g : List Item) → glob_value v ≡ Some g → IsGlobText v g
unfolding glob_in
glob_sound reads v g e =
    let b = bind_some (text_value v) glob_in g e in
    let t = text_sound v b.0 b.1 in
    let w = where_some (is_utf8 v) (items_from None (chars v)) g (ap glob_in t.0 ∙ b.2) in
    (t.1, w.0, (reads g (chars v)).0 w.1)

glob_complete : GlobsAreRead → (v : List ℕ) (g : List Item) → IsGlobText v g → glob_value v ≡ Some g
unfolding glob_in
glob_complete reads v g is = rw (text_complete v v (refl, is.0), is.1) ((reads g (chars v)).1 is.2)

abbrev IsUnit : List ℕ → ℕ → Type 0
IsUnit text size = (unit : SizeUnit) × (text ≡ unit_text unit) × (size ≡ unit_size unit)

size_sound : (v : List ℕ) (size : ℕ) → size_value v ≡ Some size → IsSize v size
size_sound v size e =
    let n = prefix_len is_ascii_digit v in
    let b = bind_some (entry_of units (drop n v)) (sized (take n v)) size e in
    let u = found_in IsUnit units (drop n v) b.0 ((Bytes, refl, refl), ((Kilobytes, refl, refl), ((Megabytes, refl, refl), ((Gigabytes, refl, refl), tt)))) b.1 in
    let w = where_some (is_digits (take n v)) (Parsed.small_size (digits_value 10 (take n v) * b.0)) size b.2 in
    let s = where_some (nat_lt (digits_value 10 (take n v) * b.0) (2 ^ 64)) (Some (digits_value 10 (take n v) * b.0)) size w.1 in
    let same : digits_value 10 (take n v) * b.0 ≡ size = same_Some (digits_value 10 (take n v) * b.0) size s.1 in
    record {
      number = take n v;
      unit = u.0;
      digits = digits_sound (take n v) w.0;
      spelled = sym (take-append-drop n v) ∙ ap (λ (d : List ℕ). take n v ++ d) u.1;
      value = sym same ∙ ap (λ k. digits_value 10 (take n v) * k) u.2;
      fits = subst (λ k. k < 2 ^ 64) same (ltb-true (digits_value 10 (take n v) * b.0) (2 ^ 64) s.0);
    }

size_complete : (v : List ℕ) (size : ℕ) → IsSize v size → size_value v ≡ Some size
size_complete v size is = ap size_value is.spelled ∙ go is.unit refl
  where
    cut : (unit : SizeUnit) → prefix_len is_ascii_digit (is.number ++ unit_text unit) ≡ length is.number
    cut Bytes = ap (prefix_len is_ascii_digit) (append-nil is.number) ∙ prefix_len-whole is_ascii_digit is.number is.digits.digits
    cut Kilobytes = prefix_len-stops is_ascii_digit is.number 107 (98 ∷ []) is.digits.digits refl
    cut Megabytes = prefix_len-stops is_ascii_digit is.number 109 (98 ∷ []) is.digits.digits refl
    cut Gigabytes = prefix_len-stops is_ascii_digit is.number 103 (98 ∷ []) is.digits.digits refl

    unit_is : (unit : SizeUnit) → entry_of units (unit_text unit) ≡ Some (unit_size unit)
    unit_is Bytes = refl
    unit_is Kilobytes = refl
    unit_is Megabytes = refl
    unit_is Gigabytes = refl

    go : (unit : SizeUnit) → is.unit ≡ unit → size_value (is.number ++ unit_text is.unit) ≡ Some size
    go unit same =
        let front = take_at is.number (unit_text is.unit) (length is.number) refl in
        let back : drop (length is.number) (is.number ++ unit_text is.unit) ≡ unit_text is.unit = drop-append is.number (unit_text is.unit) in
        let small : nat_lt (digits_value 10 is.number * unit_size is.unit) (2 ^ 64) ≡ true = lt-ltb (digits_value 10 is.number * unit_size is.unit) (2 ^ 64) (subst (λ k. k < 2 ^ 64) is.value is.fits) in
        rw (cut is.unit, front, back, unit_is is.unit, digits_complete is.number is.digits, small) (ap Some (sym is.value))
      where
        drop-append : (xs ys : List ℕ) → drop (length xs) (xs ++ ys) ≡ ys
        drop-append [] ys = refl
        drop-append (x ∷ xs) ys = drop-append xs ys

-- ---- `copies=`

-- a cut at the last colon, or that there is none
abbrev CutAt : List ℕ → Option (List ℕ × List ℕ) → Type 0
CutAt value None = is_colonless value ≡ true
CutAt value (Some x) = (value ≡ x.0 ++ 58 ∷ x.1) × (is_colonless x.1 ≡ true)

cut_at : (value : List ℕ) → CutAt value (colon_cut value)
cut_at [] = refl
cut_at (b ∷ bs) = go (colon_cut bs) (cut_at bs)
  where
    go : (o : Option (List ℕ × List ℕ)) → CutAt bs o → CutAt (b ∷ bs) (cut_with b bs o)
    go (Some x) c = (ap (λ (w : List ℕ). b ∷ w) c.0, c.1)
    go None c = by_test (b == 58) (λ t. rw t (ap (λ n. n ∷ bs) (eqb-true b 58 t), c)) (λ f. rw f (rw (f, c) refl))

cut_again : (kind digits : List ℕ) → is_colonless digits ≡ true → colon_cut (kind ++ 58 ∷ digits) ≡ Some (kind, digits)
cut_again [] digits less = ap (cut_with 58 digits) (none digits less)
  where
    none : (w : List ℕ) → is_colonless w ≡ true → colon_cut w ≡ None
    none [] e = refl
    none (b ∷ bs) e =
        let both = and_parts (not (b == 58)) (is_colonless bs) e in
        by_test (b == 58) (λ t. absurd (let bad : not true ≡ true = subst (λ (x : Bool). not x ≡ true) t both.0 in cc)) (λ f. ap (cut_with b bs) (none bs both.1) ∙ rw f refl)
cut_again (b ∷ kind) digits less = ap (cut_with b (kind ++ 58 ∷ digits)) (cut_again kind digits less)

abbrev LevelText : List ℕ → Among → Type 0
LevelText text among = IsAmong text among × ((level : Level) × (IsLevel text level ⊎ IsLevelOrMore text level))

level_found : (text : List ℕ) (among : Among) → entry_of levels text ≡ Some among → LevelText text among
level_found text among e = found_in LevelText levels text among (
  (refl, (Untrusted, inl refl)),
  (
    ((codes "untrusted", refl, refl), (Untrusted, inr (codes "untrusted", refl, refl))),
    (
      (refl, (Semitrusted, inl refl)),
      (
        ((codes "semitrusted", refl, refl), (Semitrusted, inr (codes "semitrusted", refl, refl))),
        (
          (refl, (Trusted, inl refl)),
          (((codes "trusted", refl, refl), (Trusted, inr (codes "trusted", refl, refl))), tt),
        ),
      ),
    ),
  ),
) e

is_level : (text : List ℕ) (level : Level) → IsLevel text level → entry_of levels text ≡ Some (OfLevel level)
is_level text Dead is = absurd is
is_level text Untrusted is = ap (entry_of levels) is
is_level text Semitrusted is = ap (entry_of levels) is
is_level text Trusted is = ap (entry_of levels) is

is_level_or_more : (text : List ℕ) (level : Level) → IsLevelOrMore text level → entry_of levels text ≡ Some (OfLevelOrMore level)
is_level_or_more text Dead is = absurd is.1
is_level_or_more text Untrusted is = ap (entry_of levels) (is.2 ∙ ap (λ (w : List ℕ). w ++ codes "+") is.1)
is_level_or_more text Semitrusted is = ap (entry_of levels) (is.2 ∙ ap (λ (w : List ℕ). w ++ codes "+") is.1)
is_level_or_more text Trusted is = ap (entry_of levels) (is.2 ∙ ap (λ (w : List ℕ). w ++ codes "+") is.1)

among_sound : (text : List ℕ) (among : Among) → among_value text ≡ Some among → IsAmong text among
among_sound text among e = go (entry_of levels text) refl
  where
    go : (o : Option Among) → entry_of levels text ≡ o → IsAmong text among
    go (Some x) is =
        let e' : Some x ≡ Some among = rw is at e in
        (level_found text among (is ∙ e')).0
    go None is =
        let e' : option_map (λ group. InGroup group) (text_value text) ≡ Some among = rw is at e in
        let m = mapped (λ group. InGroup group) (text_value text) among e' in
        let t = text_sound text m.0 m.1 in
        subst (IsAmong text) m.2 (
          t.0,
          subst (λ (w : List ℕ). 0 < length w) t.0 t.1,
          λ level. (λ l. none-some (OfLevel level) (sym is ∙ is_level text level l), λ l. none-some (OfLevelOrMore level) (sym is ∙ is_level_or_more text level l)),
        )

among_complete : (text : List ℕ) (among : Among) → IsAmong text among → among_value text ≡ Some among
among_complete text All is = absurd is
among_complete text (OfLevel level) is = let at = is_level text level is in rw at refl
among_complete text (OfLevelOrMore level) is = let at = is_level_or_more text level is in rw at refl
among_complete text (InGroup group) is = go (entry_of levels text) refl
  where
    none : (l : (level : Level) × (IsLevel text level ⊎ IsLevelOrMore text level)) → ⊥
    none (level, inl x) = (is.2 level).0 x
    none (level, inr x) = (is.2 level).1 x

    go : (o : Option Among) → entry_of levels text ≡ o → among_value text ≡ Some (InGroup group)
    go (Some x) at = absurd (none (level_found text x at).1)
    go None at = rw at (ap (option_map (λ g. InGroup g)) (text_complete text group (is.0, subst (λ (w : List ℕ). 0 < length w) (sym is.0) is.1)))

abbrev CopiesWord : List ℕ → Word → Type 0
CopiesWord value (Copies among n) = IsCopies value among n
CopiesWord value w = ⊥

copies_sound : (value : List ℕ) (w : Word) → copies_value value ≡ Some w → CopiesWord value w
copies_sound value w e = go (colon_cut value) (cut_at value) e
  where
    kinds : (kind digits : List ℕ) (among : Among) (n : ℕ) → value ≡ kind ++ 58 ∷ digits → IsAmong kind among → IsCount digits n → IsCopies value among n
    kinds kind digits All n spelled a d = absurd a
    kinds kind digits (OfLevel level) n spelled a d = (kind, digits, a, d, spelled ∙ sym (one_colon kind digits))
    kinds kind digits (OfLevelOrMore level) n spelled a d = (kind, digits, a, d, spelled ∙ sym (one_colon kind digits))
    kinds kind digits (InGroup group) n spelled a d = (kind, digits, a, d, spelled ∙ sym (one_colon kind digits))

    go : (o : Option (List ℕ × List ℕ)) → CutAt value o → copies_by value o ≡ Some w → CopiesWord value w
    go None c h = let m = mapped (λ least. Copies All least) (count_value value) w h in subst (CopiesWord value) m.2 (count_sound value m.0 m.1)
    go (Some x) c h =
        let a = bind_some (among_value x.0) _ w h in
        let n = bind_some (count_value x.1) _ w a.2 in
        subst (CopiesWord value) (same_Some (Copies a.0 n.0) w n.2) (kinds x.0 x.1 a.0 n.0 c.0 (among_sound x.0 a.0 a.1) (count_sound x.1 n.0 n.1))

kind_read : (value : List ℕ) (among : Among) (n : ℕ) (kind digits : List ℕ) → IsAmong kind among → IsCount digits n → value ≡ kind ++ codes ":" ++ digits → copies_value value ≡ Some (Copies among n)
kind_read value among n kind digits a d spelled =
    let less = digits_colonless digits d.digits.digits in
    let cut : colon_cut value ≡ Some (kind, digits) = ap colon_cut (spelled ∙ one_colon kind digits) ∙ cut_again kind digits less in
    rw (cut, among_complete kind among a, count_complete digits n d) refl

copies_complete : (value : List ℕ) (among : Among) (n : ℕ) → IsCopies value among n → copies_value value ≡ Some (Copies among n)
copies_complete value All n is = whole (colon_cut value) (cut_at value)
  where
    whole : (o : Option (List ℕ × List ℕ)) → CutAt value o → copies_by value o ≡ Some (Copies All n)
    whole None c = ap (option_map (λ least. Copies All least)) (count_complete value n is)
    whole (Some x) c = absurd (colon_inside x.0 x.1 (subst (λ (w : List ℕ). is_colonless w ≡ true) c.0 (digits_colonless value is.digits.digits)))
copies_complete value (OfLevel level) n is = kind_read value (OfLevel level) n is.0 is.1 is.2 is.3 is.4
copies_complete value (OfLevelOrMore level) n is = kind_read value (OfLevelOrMore level) n is.0 is.1 is.2 is.3 is.4
copies_complete value (InGroup group) n is = kind_read value (InGroup group) n is.0 is.1 is.2 is.3 is.4

-- ---- words

bare_sound : (text : List ℕ) (w : Word) → entry_of bare_words text ≡ Some w → IsBare text w
bare_sound text w e = found_in IsBare bare_words text w (refl, (refl, (refl, (refl, (refl, (refl, tt)))))) e

bare_complete : (text : List ℕ) (w : Word) → IsBare text w → word_of text ≡ Some w
bare_complete text Anything is = ap word_of is
bare_complete text Nothing is = ap word_of is
bare_complete text Present is = ap word_of is
bare_complete text SecureHash is = ap word_of is
bare_complete text Standard is = ap word_of is
bare_complete text GroupWanted is = ap word_of is
bare_complete text w is = absurd is

abbrev ReadsValue : List ℕ → (List ℕ → Option Word) → Type 0
ReadsValue name read = (value : List ℕ) (w : Word) → read value ≡ Some w → IsValued name value w

copies_valued : (value : List ℕ) (w : Word) → CopiesWord value w → IsValued (codes "copies") value w
copies_valued value (Copies among n) is = (refl, is)
copies_valued value w is = absurd is

-- ---- pieces

bytes_back : (front : List ℕ) (r : WordRead) (word after : List ℕ) → after_bytes front r ≡ Ok (word, after) → (w : List ℕ) × (r ≡ Ok (w, after))
bytes_back front (Ok x) word after e = let same = ok_is ℕ (front ++ x.0, x.1) (word, after) e in (x.0, ap (λ (z : List ℕ). Ok (x.0, z)) (ap (λ (y : List ℕ × List ℕ). y.1) same))
bytes_back front (Err at) word after e = absurd (err_ok at (word, after) e)

word_back : (place : ℕ) (r : WordRead) (at : ℕ) (piece : Piece) (after : List ℕ) → as_piece place r ≡ Ok (Some (at, piece, after)) → (w : List ℕ) × (r ≡ Ok (w, after))
word_back place (Ok x) at piece after e =
    let same = same_Some (place, Written x.0, x.1) (at, piece, after) (ok_is ℕ (Some (place, Written x.0, x.1)) (Some (at, piece, after)) e) in
    (x.0, ap (λ (z : List ℕ). Ok (x.0, z)) (ap (λ (y : ℕ × Piece × List ℕ). y.2) same))
word_back place (Err quote) at piece after e = absurd (err_ok quote (Some (at, piece, after)) e)

-- the other branch
off_branch : {A : Type 0} (c : Bool) (x y z : A) → c ≡ false → (if c then x else y) ≡ z → y ≡ z
off_branch true x y z f e = absurd (true≢false f)
off_branch false x y z f e = e

module _ (reads : GlobsAreRead) where
  valued_sound : (name : List ℕ) (read : List ℕ → Option Word) → entry_of valued_words name ≡ Some read → ReadsValue name read
  valued_sound name read e = found_in ReadsValue valued_words name read (
    (λ value w h. let m = mapped (λ glob. Include glob) (glob_value value) w h in subst (IsValued (codes "include") value) m.2 (refl, glob_sound reads value m.0 m.1)),
    (
      (λ value w h. let m = mapped (λ glob. Exclude glob) (glob_value value) w h in subst (IsValued (codes "exclude") value) m.2 (refl, glob_sound reads value m.0 m.1)),
      (
        (λ value w h. copies_valued value w (copies_sound value w h)),
        (
          (λ value w h. let m = mapped (λ least. LackingCopies least) (count_value value) w h in subst (IsValued (codes "lackingcopies") value) m.2 (inl refl, count_sound value m.0 m.1)),
          (
            (λ value w h. let m = mapped (λ least. LackingCopies least) (count_value value) w h in subst (IsValued (codes "approxlackingcopies") value) m.2 (inr refl, count_sound value m.0 m.1)),
            (
              (λ value w h. let m = mapped (λ group. InAllGroup group) (text_value value) w h in subst (IsValued (codes "inallgroup") value) m.2 (refl, text_sound value m.0 m.1)),
              (
                (λ value w h. let m = mapped (λ group. OnlyInGroup group) (text_value value) w h in subst (IsValued (codes "onlyingroup") value) m.2 (refl, text_sound value m.0 m.1)),
                (
                  (λ value w h. let m = mapped (λ backend. InBackend backend) (text_value value) w h in subst (IsValued (codes "inbackend") value) m.2 (refl, text_sound value m.0 m.1)),
                  (
                    (λ value w h. let m = mapped (λ limit. LargerThan limit) (size_value value) w h in subst (IsValued (codes "largerthan") value) m.2 (refl, size_sound value m.0 m.1)),
                    (
                      (λ value w h. let m = mapped (λ limit. SmallerThan limit) (size_value value) w h in subst (IsValued (codes "smallerthan") value) m.2 (refl, size_sound value m.0 m.1)),
                      tt,
                    ),
                  ),
                ),
              ),
            ),
          ),
        ),
      ),
    ),
  ) e

  valued_complete : (name value : List ℕ) (w : Word) → IsValued name value w → word_of (name ++ codes "=" ++ value) ≡ Some w
  valued_complete name value (Include glob) is = ap (λ n. word_of (n ++ codes "=" ++ value)) is.0 ∙ ap (option_map (λ g. Include g)) (glob_complete reads value glob is.1)
  valued_complete name value (Exclude glob) is = ap (λ n. word_of (n ++ codes "=" ++ value)) is.0 ∙ ap (option_map (λ g. Exclude g)) (glob_complete reads value glob is.1)
  valued_complete name value (Copies among n) is = ap (λ n. word_of (n ++ codes "=" ++ value)) is.0 ∙ copies_complete value among n is.1
  valued_complete name value (LackingCopies n) is =
      elim (is.0) [
        | inl e ↦ ap (λ n. word_of (n ++ codes "=" ++ value)) e
        | inr e ↦ ap (λ n. word_of (n ++ codes "=" ++ value)) e
      ] ∙ ap (option_map (λ least. LackingCopies least)) (count_complete value n is.1)
  valued_complete name value (InAllGroup group) is = ap (λ n. word_of (n ++ codes "=" ++ value)) is.0 ∙ ap (option_map (λ g. InAllGroup g)) (text_complete value group is.1)
  valued_complete name value (OnlyInGroup group) is = ap (λ n. word_of (n ++ codes "=" ++ value)) is.0 ∙ ap (option_map (λ g. OnlyInGroup g)) (text_complete value group is.1)
  valued_complete name value (InBackend backend) is = ap (λ n. word_of (n ++ codes "=" ++ value)) is.0 ∙ ap (option_map (λ g. InBackend g)) (text_complete value backend is.1)
  valued_complete name value (LargerThan n) is = ap (λ n. word_of (n ++ codes "=" ++ value)) is.0 ∙ ap (option_map (λ k. LargerThan k)) (size_complete value n is.1)
  valued_complete name value (SmallerThan n) is = ap (λ n. word_of (n ++ codes "=" ++ value)) is.0 ∙ ap (option_map (λ k. SmallerThan k)) (size_complete value n is.1)
  valued_complete name value w is = absurd is

  name_spelled : (text : List ℕ) (x : List ℕ × List ℕ) → name_cut text ≡ Some x → text ≡ x.0 ++ codes "=" ++ x.1
  name_spelled [] x e = absurd (none-some x e)
  name_spelled (b ∷ bs) x e =
      by_test (b == 61)
      (λ t. let e' : Some ([], bs) ≡ Some x = rw t at e in
      subst (λ (y : List ℕ × List ℕ). b ∷ bs ≡ y.0 ++ codes "=" ++ y.1) (same_Some ([], bs) x e') (ap (λ n. n ∷ bs) (eqb-true b 61 t)))
      (λ f. let e' : option_map (λ y. (b ∷ y.0, y.1)) (name_cut bs) ≡ Some x = rw f at e in
      let m = mapped (λ y. (b ∷ y.0, y.1)) (name_cut bs) x e' in
      subst (λ (y : List ℕ × List ℕ). b ∷ bs ≡ y.0 ++ codes "=" ++ y.1) m.2 (ap (λ (w : List ℕ). b ∷ w) (name_spelled bs m.0 m.1)))

  word_sound : (text : List ℕ) (w : Word) → word_of text ≡ Some w → IsWord text w
  unfolding IsWord
  word_sound text w e = elim (option_or-was (entry_of bare_words text) (valued_word text) w e) [
    | inl bare ↦ inl (bare_sound text w bare)
    | inr valued ↦ inr (
        let cut = bind_some (name_cut text) _ w valued in
        let read = bind_some (entry_of valued_words cut.0.0) _ w cut.2 in
        (cut.0.0, cut.0.1, name_spelled text cut.0 cut.1, valued_sound cut.0.0 read.0 read.1 cut.0.1 w read.2))
  ]

  word_complete : (text : List ℕ) (w : Word) → IsWord text w → word_of text ≡ Some w
  unfolding IsWord
  word_complete text w (inl is) = bare_complete text w is
  word_complete text w (inr is) = ap word_of is.2 ∙ valued_complete is.0 is.1 w is.3

  -- ---- lexemes

  abbrev IsOperator : List ℕ → Lexeme → Type 0
  IsOperator text l = is_operator text ≡ true

  abbrev IsSign : List ℕ → Lexeme → Type 0
  IsSign text l = IsLexeme (Written text) l

  lexeme_sound : (piece : Piece) (l : Lexeme) → lexeme_of piece ≡ Some l → IsLexeme piece l
  lexeme_sound Opening l e = subst (IsLexeme Opening) (same_Some Open l e) refl
  lexeme_sound Closing l e = subst (IsLexeme Closing) (same_Some Close l e) refl
  lexeme_sound (Written text) l e = elim (option_or-was (entry_of operators text) (option_map (λ word. Term word) (word_of text)) l e) [
    | inl sign ↦ found_in IsSign operators text l (refl, (refl, (refl, tt))) sign
    | inr term ↦ (let m = mapped (λ word. Term word) (word_of text) l term in subst (IsLexeme (Written text)) m.2 (text, refl, word_sound text m.0 m.1))
  ]

  lexeme_complete : (piece : Piece) (l : Lexeme) → IsLexeme piece l → lexeme_of piece ≡ Some l
  lexeme_complete piece Open is = ap lexeme_of is
  lexeme_complete piece Close is = ap lexeme_of is
  lexeme_complete piece Not is = ap lexeme_of is
  lexeme_complete piece (Infix And) is = ap lexeme_of is
  lexeme_complete piece (Infix Or) is = ap lexeme_of is
  lexeme_complete piece (Term word) is = ap lexeme_of is.1 ∙ rw (no_sign is.0 word is.2, word_complete is.0 word is.2) refl
    where
      no_sign : (text : List ℕ) (w : Word) → IsWord text w → entry_of operators text ≡ None
      no_sign text w word = go (entry_of operators text) refl
        where
          go : (o : Option Lexeme) → entry_of operators text ≡ o → entry_of operators text ≡ None
          go None at = at
          go (Some l) at = absurd (true≢false (sym (found_in IsOperator operators text l (refl, (refl, (refl, tt))) at) ∙ no_operator text w word))

  -- ---- the whole text

  abbrev ReadsFrom : ℕ → PieceRead → List ℕ → State → Formula → Type 0
  ReadsFrom total p rest s f = (read : List (ℕ × Lexeme)) × (last : List ℕ) × (t : State) × Reads total rest read last × (run read s ≡ Ok t) × (piece_at total last ≡ Ok None) × (finish total t ≡ Ok f)

  ok_of : {A : Type 0} (r : Result A ExprFault) (x : A) → result_ok r ≡ Some x → r ≡ Ok x
  ok_of (Ok y) x e = ap Ok (same_Some y x e)
  ok_of (Err d) x e = absurd (none-some x e)

  from_sound : (n total : ℕ) (rest : List ℕ) (p : PieceRead) (s : State) (f : Formula) → piece_at total rest ≡ p → formula_from n total p s ≡ Some f → ReadsFrom total p rest s f
  from_sound n total rest (Err quote) s f at e = absurd (none-some f e)
  from_sound n total rest (Ok None) s f at e = ([], rest, s, refl, refl, at, ok_of (finish total s) f e)
  from_sound zero total rest (Ok (Some (place, piece, after))) s f at e = absurd (none-some f e)
  from_sound (suc n) total rest (Ok (Some (place, piece, after))) s f at e =
      let l = bind_some (lexeme_of piece) _ f e in
      let next = bind_some (result_ok (step place l.0 s)) _ f l.2 in
      let stepped = ok_of (step place l.0 s) next.0 next.1 in
      let more = from_sound n total after (piece_at total after) next.0 f refl next.2 in
      ((place, l.0) ∷ more.0, more.1, more.2, (after, (piece, at, lexeme_sound piece l.0 l.1), more.3), ap (λ (r : Result State ExprFault). r >>= run more.0) stepped ∙ more.4, more.5, more.6)

  -- a piece takes a byte at least
  word_shortens : (total : ℕ) (quote : Option ℕ) (bytes word after : List ℕ) → word_at total quote bytes ≡ Ok (word, after) → length after ≤ length bytes
  word_shortens total None [] word after e = let same = ok_is ℕ ([], []) (word, after) e in omega (arith, ap (λ (x : List ℕ × List ℕ). length x.1) same)
  word_shortens total (Some at) [] word after e = absurd (err_ok at (word, after) e)
  word_shortens total None (b ∷ bs) word after e =
      by_test (ends_word b)
      (λ t. let e' : Ok ([], b ∷ bs) ≡ Ok (word, after) = rw t at e in
      let same = ok_is ℕ ([], b ∷ bs) (word, after) e' in omega (arith, ap (λ (x : List ℕ × List ℕ). length x.1) same))
      (λ f. by_test (b == 34)
      (λ t. let e' : word_at total (Some (total - length (b ∷ bs))) bs ≡ Ok (word, after) = rw (f, t) at e in
      omega (arith, word_shortens total (Some (total - length (b ∷ bs))) bs word after e'))
      (λ g. let e' : after_bytes (b ∷ []) (word_at total None bs) ≡ Ok (word, after) = rw (f, g) at e in
      let x = bytes_back (b ∷ []) (word_at total None bs) word after e' in
      omega (arith, word_shortens total None bs x.0 after x.1)))
  word_shortens total (Some at) (b ∷ bs) word after e =
      by_test (b == 34)
      (λ t. let e' : word_at total None bs ≡ Ok (word, after) = rw t at e in omega (arith, word_shortens total None bs word after e'))
      (λ g. let e' : after_bytes (b ∷ []) (word_at total (Some at) bs) ≡ Ok (word, after) = rw g at e in
      let x = bytes_back (b ∷ []) (word_at total (Some at) bs) word after e' in
      omega (arith, word_shortens total (Some at) bs x.0 after x.1))

  spaces_shorten : (bytes : List ℕ) → length (after_spaces bytes) ≤ length bytes
  spaces_shorten [] = omega arith
  spaces_shorten (b ∷ bs) = by_test (b == 32) (λ t. rw t (let more = spaces_shorten bs in omega (arith, more))) (λ f. rw f (omega arith))

  here_shortens : (total : ℕ) (bytes : List ℕ) (at : ℕ) (piece : Piece) (after : List ℕ) → ((b : ℕ) (bs : List ℕ) → bytes ≡ b ∷ bs → (b == 32) ≡ false) → piece_here total bytes ≡ Ok (Some (at, piece, after)) → length after < length bytes
  here_shortens total [] at piece after apart e = absurd (none-some (at, piece, after) (ok_is ℕ None (Some (at, piece, after)) e))
  here_shortens total (b ∷ bs) at piece after apart e =
      by_test (b == 40)
      (λ t. let e' : ◌≡◌ {A = PieceRead} (Ok (Some (total - length (b ∷ bs), Opening, bs))) (Ok (Some (at, piece, after))) = rw t at e in rest_of Opening e')
      (λ f. by_test (b == 41)
      (λ t. let e' : ◌≡◌ {A = PieceRead} (Ok (Some (total - length (b ∷ bs), Closing, bs))) (Ok (Some (at, piece, after))) = rw (f, t) at e in rest_of Closing e')
      (λ g. let e' : as_piece (total - length (b ∷ bs)) (word_at total None (b ∷ bs)) ≡ Ok (Some (at, piece, after)) = off_branch (b == 41) _ _ _ g (off_branch (b == 40) _ _ _ f e) in
      let w = word_back (total - length (b ∷ bs)) (word_at total None (b ∷ bs)) at piece after e' in
      let apart' : ends_word b ≡ false = rw (apart b bs refl, f, g) refl in
      word_on apart' w.0 w.1))
    where
      rest_of : (p : Piece) → ◌≡◌ {A = PieceRead} (Ok (Some (total - length (b ∷ bs), p, bs))) (Ok (Some (at, piece, after))) → length after < length (b ∷ bs)
      rest_of p h =
          let same = same_Some (total - length (b ∷ bs), p, bs) (at, piece, after) (ok_is ℕ (Some (total - length (b ∷ bs), p, bs)) (Some (at, piece, after)) h) in
          omega (arith, ap (λ (x : ℕ × Piece × List ℕ). length x.2) same)

      word_on : ends_word b ≡ false → (word : List ℕ) → word_at total None (b ∷ bs) ≡ Ok (word, after) → length after < length (b ∷ bs)
      word_on f word h =
          by_test (b == 34)
          (λ t. let e' : word_at total (Some (total - length (b ∷ bs))) bs ≡ Ok (word, after) = rw (f, t) at h in
          omega (arith, word_shortens total (Some (total - length (b ∷ bs))) bs word after e'))
          (λ g. let e' : after_bytes (b ∷ []) (word_at total None bs) ≡ Ok (word, after) = rw (f, g) at h in
          let x = bytes_back (b ∷ []) (word_at total None bs) word after e' in
          omega (arith, word_shortens total None bs x.0 after x.1))

  piece_shortens : (total : ℕ) (bytes : List ℕ) (at : ℕ) (piece : Piece) (after : List ℕ) → piece_at total bytes ≡ Ok (Some (at, piece, after)) → length after < length bytes
  piece_shortens total bytes at piece after e =
      omega (arith, spaces_shorten bytes, here_shortens total (after_spaces bytes) at piece after (λ b bs is. no_space bytes b bs is) e)

  from_complete : (read : List (ℕ × Lexeme)) (n total : ℕ) (rest last : List ℕ) (p : PieceRead) (s t : State) (f : Formula) → piece_at total rest ≡ p → length rest ≤ n → Reads total rest read last → run read s ≡ Ok t
      → piece_at total last ≡ Ok None → finish total t ≡ Ok f → formula_from n total p s ≡ Some f
  from_complete [] n total rest last p s t f at short reads' runs end done =
      let here : Ok None ≡ p = sym end ∙ ap (piece_at total) (sym reads') ∙ at in
      subst (λ q. formula_from n total q s ≡ Some f) here (at_end n (ok_is ExprFault s t runs))
    where
      at_end : (n : ℕ) → s ≡ t → formula_from n total (Ok None) s ≡ Some f
      at_end zero same = ap result_ok (ap (finish total) same ∙ done)
      at_end (suc n) same = ap result_ok (ap (finish total) same ∙ done)
  from_complete (x ∷ xs) zero total rest last p s t f at short reads' runs end done =
      absurd (omega (arith, short, piece_shortens total rest x.0 reads'.1.0 reads'.0 reads'.1.1))
  from_complete (x ∷ xs) (suc n) total rest last p s t f at short reads' runs end done =
      let here : Ok (Some (x.0, reads'.1.0, reads'.0)) ≡ p = sym reads'.1.1 ∙ at in
      let lexeme = lexeme_complete reads'.1.0 x.1 reads'.1.2 in
      let k = run_bind (step x.0 x.1 s) xs t runs in
      let less = piece_shortens total rest x.0 reads'.1.0 reads'.0 reads'.1.1 in
      let more = from_complete xs n total reads'.0 last (piece_at total reads'.0) k.0 t f refl (omega (arith, short, less)) reads'.2 k.2 end done in
      subst (λ q. formula_from (suc n) total q s ≡ Some f) here (rw (lexeme, k.1) more)

  -- **what is read is what is spelled**
  pub formula_exact : (text : List ℕ) (f : Formula) → (formula_in text ≡ Some f) ↔ IsExpression text f
  unfolding formula_in
  formula_exact text f = (sound, complete)
    where
      sound : formula_in text ≡ Some f → IsExpression text f
      sound e =
          let total = length text in
          let w = where_some (nat_le total 4096) (formula_from total total (piece_at total text) (Awaiting [])) f e in
          let r = from_sound total total text (piece_at total text) (Awaiting []) f refl w.1 in
          ends_expression text f (leb-true total 4096 w.0) (record { read = r.0; rest = r.1; state = r.2; reads = r.3; runs = r.4; ends = inl (r.5, sym r.6) })

      complete : IsExpression text f → formula_in text ≡ Some f
      complete h =
          let total = length text in
          let e = expression_ends text f h in
          let ends' = ended e in
          rw (le-leb total 4096 h.short) (from_complete e.read total total text e.rest (piece_at total text) (Awaiting []) e.state f refl (omega arith) e.reads e.runs ends'.0 (sym ends'.1))
        where
          ended : (e : Ends text (Ok f)) → (piece_at (length text) e.rest ≡ Ok None) × (Ok f ≡ finish (length text) e.state)
          ended e = elim (e.ends) [
            | inl y ↦ (y.0, y.1)
            | inr y ↦ elim y [ inl z ↦ absurd (ok_err z.0 f z.2) | inr z ↦ absurd (ok_err z.3 f z.6) ]
          ]
