-- Lines that are cut short: whether some lines in order go on from there, to so many bytes.
use Rattle.std.proofs.Common.{◌≡◌, inl, inr, ℕ, zero, suc, ◌+◌, ◌-◌, ◌*◌, ◌≤◌, true, false, ◌&&◌, List, [], ◌∷◌, ◌++◌, length, arith, refl, sym, ap, subst, ◌∙◌, append_assoc, length-append}
use Rattle.std.specs.Ordering.{is_lt}
use Rattle.std.specs.Bool.{◌==◌}
use Rattle.std.proofs.lemmas.List.{append-nil, nil_from_length}
use Rattle.std.proofs.lemmas.Bool.{and_from, and_parts, true≢false}
use Rattle.std.proofs.lemmas.Bool.Decides.{eqb_tells}
use Rattle.annex_base.specs.ByteOrder.{text_cmp, Before, IsInOrder}
use Rattle.annex_base.specs.Lists.{Member, Each}
use Rattle.annex_base.specs.Lines.{newline}
use Rattle.union_merge.specs.LineSet.{IsLine, IsLineSet, is_empty, text_of}
use Rattle.branch_bundle.specs.Bundle.{IsByte}
use Rattle.branch_bundle.specs.Parts.{IsFree, IsCut, fill, ends_well, BeginsLines}
use Rattle.branch_bundle.proofs.FileLemmas.{Lines}
use Rattle.annex_base.proofs.TextOrder.{BeforeAll, order_nil, order_cons, order_head, order_tail, BeforeAll-trans}
use Rattle.annex_base.proofs.Lists.{Each-append, Each-left, Member-append_cases, Member-append_right}
use Rattle.annex_base.proofs.Numbers.{is_lt_true}
use Rattle.branch_bundle.proofs.TextLemmas.{cut_same}
use Rattle.branch_bundle.proofs.FillLemmas.{fill-bytes, fill-free, length-fill, before_best, before_none, filled_cmp}

-- ---- tests

pub lt_is : (x y : List ℕ) → Before x y → is_lt (text_cmp x y) ≡ true
lt_is x y less = ap is_lt less

pub is_before : (x y : List ℕ) → is_lt (text_cmp x y) ≡ true → Before x y
is_before x y e = is_lt_true (text_cmp x y) e

-- ---- the cases of the test

pub ends_well-end : (line front : List ℕ) → ends_well line front [] 0 ≡ is_empty front
unfolding ends_well
ends_well-end line front = refl

pub ends_well-left : (line front : List ℕ) (left : ℕ) → ends_well line front [] (suc left) ≡ is_lt (text_cmp line (front ++ fill left))
unfolding ends_well
ends_well-left line front left = elim (eqb_tells (suc left) 0) [
  | inl none ↦ absurd (omega (arith, none.1))
  | inr some ↦ let e : (suc left == 0) ≡ false = some.0 in let n : suc left - 1 ≡ left = omega arith in rw e (ap (λ k. is_lt (text_cmp line (front ++ fill k))) n)
]

pub ends_well-newline : (line front bs : List ℕ) (left : ℕ) → ends_well line front (newline ∷ bs) left ≡ (is_lt (text_cmp line front) && ends_well front [] bs left)
unfolding ends_well
ends_well-newline line front bs left = refl

pub ends_well-byte : (line front : List ℕ) (b : ℕ) (bs : List ℕ) (left : ℕ) → (b == newline) ≡ false → ends_well line front (b ∷ bs) left ≡ ends_well line (front ++ b ∷ []) bs left
unfolding ends_well
ends_well-byte line front b bs left other = rw other refl

-- ---- lines in order after another line

abbrev pub LinesAfter : List ℕ → Lines → Type 0
LinesAfter line [] = Unit {0}
LinesAfter line (x ∷ xs) = Before line x × IsFree newline x × LinesAfter x xs

-- a line that comes after another isn't empty
pub some_line : (line x : List ℕ) → Before line x → IsFree newline x → IsLine x
some_line line [] less free = absurd (before_none line less)
some_line line (b ∷ bs) less free = record { some = λ none. cc; single = free }

after_all : (line : List ℕ) (xs : Lines) → LinesAfter line xs → BeforeAll line xs × IsInOrder xs × Each IsLine xs
after_all line [] after = (tt, order_nil, tt)
after_all line (x ∷ xs) after =
    let rest = after_all x xs after.2 in
    ((after.0, BeforeAll-trans line x xs after.0 rest.0), order_cons x xs rest.0 rest.1, (some_line line x after.0 after.1, rest.2))

pub after_set : (xs : Lines) → LinesAfter [] xs → IsLineSet xs
after_set xs after = let h = after_all [] xs after in record { sorted = h.1; each = h.2 }

chained : (line : List ℕ) (xs : Lines) → BeforeAll line xs → IsInOrder xs → Each IsLine xs → LinesAfter line xs
chained line [] below sorted each = tt
chained line (x ∷ xs) below sorted each = (below.0, each.0.single, chained x xs (order_head x xs sorted) (order_tail x xs sorted) each.1)

nothing_before : (xs : Lines) → Each IsLine xs → BeforeAll [] xs
nothing_before [] each = tt
nothing_before ([] ∷ xs) each = absurd (each.0.some refl)
nothing_before ((b ∷ bs) ∷ xs) each = (refl, nothing_before xs each.1)

pub set_after : (xs : Lines) → IsLineSet xs → LinesAfter [] xs
set_after xs set = chained [] xs (nothing_before xs set.each) set.sorted set.each

-- ---- texts

pub text_of-cons : (x : List ℕ) (xs : Lines) → text_of (x ∷ xs) ≡ x ++ newline ∷ text_of xs
text_of-cons x xs = append_assoc x (newline ∷ []) (text_of xs)

-- a front without the byte is a front of what stands before the byte
pub free_front : (b : ℕ) (p r x ys : List ℕ) → IsFree b p → p ++ r ≡ x ++ b ∷ ys → (c : List ℕ) × (x ≡ p ++ c) × (r ≡ c ++ b ∷ ys)
free_front b [] r x ys free is = (x, refl, is)
free_front b (y ∷ p) r [] ys free is = let e : y ≡ b = cc in absurd (free (inl (sym e)))
free_front b (y ∷ p) r (z ∷ x) ys free is =
    let head : y ≡ z = cc in
    let tail : p ++ r ≡ x ++ b ∷ ys = cc in
    let h = free_front b p r x ys (λ among. free (inr among)) tail in
    (h.0, ap (λ (w : List ℕ). z ∷ w) h.1 ∙ ap (λ (w : ℕ). w ∷ (p ++ h.0)) (sym head), h.2)

free_push : (b c : ℕ) (p : List ℕ) → IsFree b p → (c == b) ≡ false → IsFree b (p ++ c ∷ [])
free_push b c [] free other among = elim among [
  | inl same ↦ elim (eqb_tells c b) [ inl is ↦ true≢false (sym is.0 ∙ other) | inr far ↦ far.1 (sym same) ]
  | inr none ↦ none
]
free_push b c (x ∷ p) free other among = elim among [ inl first ↦ free (inl first) | inr later ↦ free_push b c p (λ h. free (inr h)) other later ]

-- ---- what passes the test is the front of lines in order

pub ends_found : (t line front : List ℕ) (left : ℕ) → IsFree newline front → ends_well line front t left ≡ true
    → (lines : Lines) × (rest : List ℕ) × LinesAfter line lines × Each IsByte rest × (length rest ≡ left) × (front ++ (t ++ rest) ≡ text_of lines)
ends_found [] line front zero free passes =
    ([], [], tt, tt, refl, ap (λ (w : List ℕ). w ++ []) (empty_is front (sym (ends_well-end line front) ∙ passes))) where
      empty_is : (front : List ℕ) → is_empty front ≡ true → front ≡ []
      empty_is [] e = refl
      empty_is (b ∷ bs) e = absurd (true≢false (sym e))
ends_found [] line front (suc left) free passes =
    let less : Before line (front ++ fill left) = is_before line (front ++ fill left) (sym (ends_well-left line front left) ∙ passes) in (
      (front ++ fill left) ∷ [],
      fill left ++ newline ∷ [],
      (less, free_both front (fill left) free (fill-free left), tt),
      Each-append IsByte (fill left) (newline ∷ []) (fill-bytes left) (omega arith, tt),
      omega (arith, length-append (fill left) (newline ∷ []), length-fill left),
      sym (text_of-cons (front ++ fill left) [] ∙ append_assoc front (fill left) (newline ∷ [])),
    ) where
      free_both : (xs ys : List ℕ) → IsFree newline xs → IsFree newline ys → IsFree newline (xs ++ ys)
      free_both xs ys first second = λ among. elim (Member-append_cases xs ys newline among) [ inl front ↦ first front | inr back ↦ second back ]
ends_found (b ∷ bs) line front left free passes = elim (eqb_tells b newline) [
  | inl is ↦
      let tests = and_parts (is_lt (text_cmp line front)) (ends_well front [] bs left) (sym (ends_well-newline line front bs left) ∙ ap (λ k. ends_well line front (k ∷ bs) left) (sym is.1) ∙ passes) in
      let h = ends_found bs front [] left (λ none. none) tests.1 in (
        front ∷ h.0,
        h.1,
        (is_before line front tests.0, free, h.2),
        h.3,
        h.4,
        ap (λ (k : ℕ). front ++ k ∷ (bs ++ h.1)) is.1 ∙ ap (λ (w : List ℕ). front ++ newline ∷ w) h.5 ∙ sym (text_of-cons front h.0),
      )
  | inr other ↦
      let h = ends_found bs line (front ++ b ∷ []) left (free_push newline b front free other.0) (sym (ends_well-byte line front b bs left other.0) ∙ passes) in
      (h.0, h.1, h.2, h.3, h.4, sym (append_assoc front (b ∷ []) (bs ++ h.1)) ∙ h.5)
]

-- ---- and the front of lines in order passes it

no_newline : (xs ys : List ℕ) (front : List ℕ) → IsFree newline front → front ≡ xs ++ newline ∷ ys → ⊥
no_newline xs ys front free is = free (subst (Member newline) (sym is) (Member-append_right xs (newline ∷ ys) newline (inl refl)))

pub ends_told : (t line front : List ℕ) (left : ℕ) (lines : Lines) (rest : List ℕ) → IsFree newline front → LinesAfter line lines → Each IsByte rest → length rest ≡ left → front ++ (t ++ rest) ≡ text_of lines
    → ends_well line front t left ≡ true
ends_told [] line front zero [] rest free after bytes long is = ends_well-end line front ∙ empty front rest is where
  empty : (front rest : List ℕ) → front ++ rest ≡ [] → is_empty front ≡ true
  empty [] rest e = refl
  empty (b ∷ bs) rest e = absurd cc
ends_told [] line front zero (x ∷ xs) rest free after bytes long is =
    absurd (no_newline x (text_of xs) front free (sym (append-nil front) ∙ ap (λ (w : List ℕ). front ++ w) (sym (nil_from_length rest long)) ∙ is ∙ text_of-cons x xs))
ends_told [] line front (suc left) [] rest free after bytes long is = absurd (omega (arith, ap length is, length-append front rest, long))
ends_told [] line front (suc left) (x ∷ xs) rest free after bytes long is =
    let h = free_front newline front rest x (text_of xs) free (is ∙ text_of-cons x xs) in
    let short : length h.0 ≤ left = omega (arith, ap length h.2, length-append h.0 (newline ∷ text_of xs), long) in
    ends_well-left line front left
    ∙ lt_is line (front ++ fill left) (before_best line front h.0 left (Each-left IsByte h.0 (newline ∷ text_of xs) (subst (Each IsByte) h.2 bytes)) short (ap (text_cmp line) (sym h.1) ∙ after.0))
ends_told (b ∷ bs) line front left lines rest free after bytes long is = elim (eqb_tells b newline) [
  | inl same ↦ ap (λ k. ends_well line front (k ∷ bs) left) same.1 ∙ ends_well-newline line front bs left ∙ cut lines after (ap (λ (k : ℕ). front ++ k ∷ (bs ++ rest)) (sym same.1) ∙ is) (λ xs more spelled. ends_told bs front [] left xs rest (λ none. none) more bytes long spelled)
  | inr other ↦ ends_well-byte line front b bs left other.0 ∙ ends_told bs line (front ++ b ∷ []) left lines rest (free_push newline b front free other.0) after bytes long (append_assoc front (b ∷ []) (bs ++ rest) ∙ is)
] where
  cut : (lines : Lines) → LinesAfter line lines → front ++ newline ∷ (bs ++ rest) ≡ text_of lines → ((xs : Lines) → LinesAfter front xs → bs ++ rest ≡ text_of xs → ends_well front [] bs left ≡ true)
      → (is_lt (text_cmp line front) && ends_well front [] bs left) ≡ true
  cut [] after is more = absurd (omega (arith, ap length is, length-append front (newline ∷ (bs ++ rest))))
  cut (x ∷ xs) after is more =
      let h = cut_same newline front (bs ++ rest) x (text_of xs) free after.1 (is ∙ text_of-cons x xs) in
      and_from (is_lt (text_cmp line front)) (ends_well front [] bs left) (lt_is line front (ap (text_cmp line) h.0 ∙ after.0)) (more xs (subst (λ w. LinesAfter w xs) (sym h.0) after.2) h.1)

-- where much is left, how much it is changes nothing
pub ends_well-large : (t line front : List ℕ) (a b : ℕ) → length line + length front + length t + 2 ≤ a → length line + length front + length t + 2 ≤ b → ends_well line front t a ≡ ends_well line front t b
ends_well-large [] line front zero b long room = absurd (omega (arith, long))
ends_well-large [] line front (suc a) zero long room = absurd (omega (arith, room))
ends_well-large [] line front (suc a) (suc b) long room =
    ends_well-left line front a ∙ ap is_lt (filled_cmp line front a b (omega (arith, long)) (omega (arith, room))) ∙ sym (ends_well-left line front b)
ends_well-large (c ∷ bs) line front a b long room = elim (eqb_tells c newline) [
  | inl same ↦
      ap (λ k. ends_well line front (k ∷ bs) a) same.1 ∙ ends_well-newline line front bs a
      ∙ ap (λ k. is_lt (text_cmp line front) && k) (ends_well-large bs front [] a b (omega (arith, long)) (omega (arith, room)))
      ∙ sym (ap (λ k. ends_well line front (k ∷ bs) b) same.1 ∙ ends_well-newline line front bs b)
  | inr other ↦
      ends_well-byte line front c bs a other.0
      ∙ ends_well-large bs line (front ++ c ∷ []) a b (omega (arith, long, length-append front (c ∷ []))) (omega (arith, room, length-append front (c ∷ [])))
      ∙ sym (ends_well-byte line front c bs b other.0)
]

-- ---- lines of n bytes

pub begins_lines-told : (n : ℕ) (text : List ℕ) → length text ≤ n → BeginsLines n text → ends_well [] [] text (n - length text) ≡ true
begins_lines-told n text within begins =
    ends_told text [] [] (n - length text) begins.lines begins.rest (λ none. none) (set_after begins.lines begins.set) begins.bytes
    (omega (arith, begins.long, ap length begins.spelled, length-append text begins.rest)) (sym begins.spelled)

pub begins_lines-found : (n : ℕ) (text : List ℕ) → length text ≤ n → ends_well [] [] text (n - length text) ≡ true → BeginsLines n text
begins_lines-found n text within passes =
    let h = ends_found text [] [] (n - length text) (λ none. none) passes in
    record {
      lines = h.0;
      rest = h.1;
      bytes = h.3;
      set = after_set h.0 h.2;
      long = omega (arith, ap length h.5, length-append text h.1, h.4);
      spelled = sym h.5;
    }

pub begins_lines-large : (m n : ℕ) (text : List ℕ) → 2 * length text + 2 ≤ m → 2 * length text + 2 ≤ n → BeginsLines m text → BeginsLines n text
begins_lines-large m n text long room begins =
    begins_lines-found n text (omega (arith, room))
    (sym (ends_well-large text [] [] (m - length text) (n - length text) (omega (arith, long)) (omega (arith, room))) ∙ begins_lines-told m text (omega (arith, long)) begins)

-- ---- line by line

pub ends_well-line : (next line front after : List ℕ) (left : ℕ) → IsFree newline next → ends_well line front (next ++ newline ∷ after) left ≡ (is_lt (text_cmp line (front ++ next)) && ends_well (front ++ next) [] after left)
ends_well-line [] line front after left free = ends_well-newline line front after left ∙ ap (λ (w : List ℕ). is_lt (text_cmp line w) && ends_well w [] after left) (sym (append-nil front))
ends_well-line (b ∷ next) line front after left free = elim (eqb_tells b newline) [
  | inl same ↦ absurd (free (inl (sym same.1)))
  | inr other ↦
      ends_well-byte line front b (next ++ newline ∷ after) left other.0
      ∙ ends_well-line next line (front ++ b ∷ []) after left (λ among. free (inr among))
      ∙ ap (λ (w : List ℕ). is_lt (text_cmp line w) && ends_well w [] after left) (append_assoc front (b ∷ []) next)
]

pub ends_well-last : (rest line front : List ℕ) (left : ℕ) → IsFree newline rest → ends_well line front rest left ≡ ends_well line (front ++ rest) [] left
ends_well-last [] line front left free = ap (λ (w : List ℕ). ends_well line w [] left) (sym (append-nil front))
ends_well-last (b ∷ rest) line front left free = elim (eqb_tells b newline) [
  | inl same ↦ absurd (free (inl (sym same.1)))
  | inr other ↦
      ends_well-byte line front b rest left other.0
      ∙ ends_well-last rest line (front ++ b ∷ []) left (λ among. free (inr among))
      ∙ ap (λ (w : List ℕ). ends_well line w [] left) (append_assoc front (b ∷ []) rest)
]

-- a whole line in front: it must come after the line before, and then the rest tells
pub next_line : (line rest next after : List ℕ) (left : ℕ) → IsCut newline rest next after → ends_well line [] rest left ≡ (is_lt (text_cmp line next) && ends_well next [] after left)
next_line line rest next after left cut = ap (λ (w : List ℕ). ends_well line [] w left) cut.spelled ∙ ends_well-line next line [] after left cut.free

pub next_good : (line rest next after : List ℕ) (left : ℕ) → IsCut newline rest next after → is_lt (text_cmp line next) ≡ true → ends_well line [] rest left ≡ ends_well next [] after left
next_good line rest next after left cut less = next_line line rest next after left cut ∙ ap (λ k. k && ends_well next [] after left) less

pub next_bad : (line rest next after : List ℕ) (left : ℕ) → IsCut newline rest next after → is_lt (text_cmp line next) ≡ false → ends_well line [] rest left ≡ false
next_bad line rest next after left cut other = next_line line rest next after left cut ∙ ap (λ k. k && ends_well next [] after left) other

-- no whole line is left
pub last_none : (line rest : List ℕ) (left : ℕ) → IsFree newline rest → left ≡ 0 → ends_well line [] rest left ≡ is_empty rest
last_none line rest left free none = ends_well-last rest line [] left free ∙ ap (ends_well line rest []) none ∙ ends_well-end line rest

pub last_some : (line rest : List ℕ) (left more : ℕ) → IsFree newline rest → left ≡ suc more → ends_well line [] rest left ≡ is_lt (text_cmp line (rest ++ fill more))
last_some line rest left more free some = ends_well-last rest line [] left free ∙ ap (ends_well line rest []) some ∙ ends_well-left line rest more

pub is_empty-length : (rest : List ℕ) → is_empty rest ≡ (length rest == 0)
is_empty-length [] = refl
is_empty-length (b ∷ bs) = elim (eqb_tells (length (b ∷ bs)) 0) [ inl none ↦ absurd (omega (arith, none.1)) | inr some ↦ sym some.0 ]
