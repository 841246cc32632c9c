-- A value is cut at its last colon in one way.
use Rattle.std.proofs.Common.{◌≡◌, ℕ, zero, suc, ◌+◌, ◌<◌, ◌==◌, not, Bool, true, List, [], ◌∷◌, ◌++◌, length, get_or, take, drop, Result, Ok, Err, refl, sym, ap, subst, ◌∙◌, arith, append_assoc, true≢false}
use Rattle.std.specs.Prelude.{codes}
use Rattle.std.specs.Char.{is_ascii_digit}
use Rattle.std.specs.List.{list_all}
use Rattle.std.proofs.lemmas.Bool.{and_parts, and_from, eqb-true}
use Rattle.std.proofs.lemmas.List.{get_or-drop, take-append-drop}
use Rattle.annex_base.proofs.Conditions.{by_test}
use Rattle.annex_base.proofs.Lists.{list_all_parts, list_all_weaker, cons_first, cons_rest}
use Rattle.wanted_expr.specs.declared.data.Among.{Among}
use Rattle.wanted_expr.specs.declared.data.Among.TheVariants.{All, OfLevel, OfLevelOrMore, InGroup}
use Rattle.wanted_expr.specs.declared.word.WordFault.{WordFault}
use Rattle.wanted_expr.specs.declared.word.WordFault.TheVariants.{Unknown, Value, NoMemory}
use Rattle.wanted_expr.specs.Finding.{FindsValue}
use Rattle.wanted_expr.specs.Words.{IsCount, IsAmong, IsCopies}
use Rattle.wanted_expr.proofs.WordLemmas.{digit_bounds}

abbrev pub is_colonless : List ℕ → Bool
is_colonless bs = list_all (λ b. not (b == 58)) bs

cons_both : (a b : ℕ) (xs ys : List ℕ) → a ≡ b → xs ≡ ys → a ∷ xs ≡ b ∷ ys
cons_both a b xs ys e f = cc

no_colon : (c : ℕ) → is_ascii_digit c ≡ true → not (c == 58) ≡ true
no_colon c e =
    by_test (c == 58)
    (λ t. let is : c ≡ 58 = eqb-true c 58 t in absurd (omega (arith, is, (digit_bounds c e).1)))
    (λ t. ap not t)

pub digits_colonless : (w : List ℕ) → list_all is_ascii_digit w ≡ true → is_colonless w ≡ true
digits_colonless w all = list_all_weaker is_ascii_digit (λ b. not (b == 58)) no_colon w all

pub colon_inside : (front back : List ℕ) → is_colonless (front ++ 58 ∷ back) ≡ true → ⊥
colon_inside front back all =
    let k = list_all_parts (λ b. not (b == 58)) front (58 ∷ back) all in
    let j = and_parts (not (58 == 58)) (is_colonless back) k.1 in
    true≢false (sym j.0)

pub same_cut : (front back front2 back2 : List ℕ) → front ++ 58 ∷ back ≡ front2 ++ 58 ∷ back2 → is_colonless back ≡ true → is_colonless back2 ≡ true → (front ≡ front2) × (back ≡ back2)
same_cut [] back [] back2 e c c2 = (refl, cons_rest 58 58 back back2 e)
same_cut [] back (y ∷ front2) back2 e c c2 =
    absurd (colon_inside front2 back2 (subst (λ (w : List ℕ). is_colonless w ≡ true) (cons_rest 58 y back (front2 ++ 58 ∷ back2) e) c))
same_cut (x ∷ front) back [] back2 e c c2 =
    absurd (colon_inside front back (subst (λ (w : List ℕ). is_colonless w ≡ true) (sym (cons_rest x 58 (front ++ 58 ∷ back) back2 e)) c2))
same_cut (x ∷ front) back (y ∷ front2) back2 e c c2 =
    let k = same_cut front back front2 back2 (cons_rest x y (front ++ 58 ∷ back) (front2 ++ 58 ∷ back2) e) c c2 in
    (cons_both x y front front2 (cons_first x y (front ++ 58 ∷ back) (front2 ++ 58 ∷ back2) e) k.0, k.1)

colonless_by : (w : List ℕ) → ((k : ℕ) → k < length w → get_or w k 0 ≡ 58 → ⊥) → is_colonless w ≡ true
colonless_by [] h = refl
colonless_by (c ∷ cs) h =
    and_from (not (c == 58)) (is_colonless cs)
    (by_test (c == 58) (λ t. let is : c ≡ 58 = eqb-true c 58 t in absurd (h 0 (omega arith) is)) (λ t. ap not t))
    (colonless_by cs (λ k within e. h (suc k) (omega (arith, within)) e))

length_drop : (n : ℕ) (xs : List ℕ) (x : ℕ) (ys : List ℕ) → drop n xs ≡ x ∷ ys → n + suc (length ys) ≡ length xs
length_drop zero xs x ys e = omega (arith, ap length e)
length_drop (suc n) [] x ys e = absurd (omega (arith, ap length e))
length_drop (suc n) (y ∷ xs) x ys e = omega (arith, length_drop n xs x ys e)

-- the cut that is taken
record IsCut (value kind digits : List ℕ) : Type 0 where
  spelled : value ≡ kind ++ 58 ∷ digits
  colonless : is_colonless digits ≡ true

cut_is : (value kind digits : List ℕ) (x colon : ℕ) → kind ≡ take colon value → drop colon value ≡ x ∷ digits → get_or value colon 0 ≡ 58 → ((k : ℕ) → colon < k → k < length value → get_or value k 0 ≡ 58 → ⊥) → IsCut value kind digits
cut_is value kind digits x colon front back is later =
    let first : x ≡ 58 = sym (ap (λ (w : List ℕ). get_or w 0 0) back) ∙ (get_or-drop colon value 0 0 ∙ (ap (λ (m : ℕ). get_or value m 0) (let e : colon + 0 ≡ colon = omega arith in e) ∙ is)) in
    let place : (k : ℕ) → get_or digits k 0 ≡ get_or value (colon + suc k) 0 = λ k. sym (ap (λ (w : List ℕ). get_or w (suc k) 0) back) ∙ get_or-drop colon value (suc k) 0 in
    let long : colon + suc (length digits) ≡ length value = length_drop colon value x digits back in
    record {
      spelled = sym (take-append-drop colon value) ∙ (ap (λ (w : List ℕ). w ++ drop colon value) (sym front) ∙ ap (λ (w : List ℕ). kind ++ w) (back ∙ ap (λ (d : ℕ). d ∷ digits) first));
      colonless = colonless_by digits (λ k within e. later (colon + suc k) (omega arith) (omega (arith, long, within)) (sym (place k) ∙ e));
    }

pub one_colon : (kind digits : List ℕ) → kind ++ codes ":" ++ digits ≡ kind ++ 58 ∷ digits
one_colon kind digits = append_assoc kind (codes ":") digits

abbrev IsPair : List ℕ → List ℕ → Among × ℕ → Type 0
IsPair kind digits x = IsAmong kind x.0 × IsCount digits x.1

copies_are : (value kind digits : List ℕ) (among : Among) (n : ℕ) → IsCut value kind digits → IsAmong kind among → IsCount digits n → IsCopies value among n
copies_are value kind digits All n cut a d = absurd a
copies_are value kind digits (OfLevel level) n cut a d = (kind, digits, a, d, cut.spelled ∙ sym (one_colon kind digits))
copies_are value kind digits (OfLevelOrMore level) n cut a d = (kind, digits, a, d, cut.spelled ∙ sym (one_colon kind digits))
copies_are value kind digits (InGroup group) n cut a d = (kind, digits, a, d, cut.spelled ∙ sym (one_colon kind digits))

again : (value kind digits kind2 digits2 : List ℕ) (among : Among) (n : ℕ) → IsCut value kind digits → IsAmong kind2 among → IsCount digits2 n → value ≡ kind2 ++ codes ":" ++ digits2 → IsPair kind digits (among, n)
again value kind digits kind2 digits2 among n cut a d e =
    let same = same_cut kind2 digits2 kind digits (sym (one_colon kind2 digits2) ∙ (sym e ∙ cut.spelled)) (digits_colonless digits2 d.digits.digits) cut.colonless in
    (subst (λ (w : List ℕ). IsAmong w among) same.0 a, subst (λ (w : List ℕ). IsCount w n) same.1 d)

pair_of : (value kind digits : List ℕ) (among : Among) (n : ℕ) → IsCut value kind digits → IsCopies value among n → IsPair kind digits (among, n)
pair_of value kind digits All n cut k = absurd (colon_inside kind digits (subst (λ (w : List ℕ). is_colonless w ≡ true) cut.spelled (digits_colonless value k.digits.digits)))
pair_of value kind digits (OfLevel level) n cut k = again value kind digits k.0 k.1 (OfLevel level) n cut k.2 k.3 k.4
pair_of value kind digits (OfLevelOrMore level) n cut k = again value kind digits k.0 k.1 (OfLevelOrMore level) n cut k.2 k.3 k.4
pair_of value kind digits (InGroup group) n cut k = again value kind digits k.0 k.1 (InGroup group) n cut k.2 k.3 k.4

found : (value kind digits : List ℕ) (r : Result (Among × ℕ) WordFault) → IsCut value kind digits → FindsValue (IsPair kind digits) r → FindsValue (λ (x : Among × ℕ). IsCopies value x.0 x.1) r
found value kind digits (Ok x) cut h = copies_are value kind digits x.0 x.1 cut h.0 h.1
found value kind digits (Err Unknown) cut h = absurd h
found value kind digits (Err Value) cut h = λ x k. h x (pair_of value kind digits x.0 x.1 cut k)
found value kind digits (Err NoMemory) cut h = tt

pub copies_cut : (value kind digits : List ℕ) (x colon : ℕ) (r : Result (Among × ℕ) WordFault) → kind ≡ take colon value → drop colon value ≡ x ∷ digits → get_or value colon 0 ≡ 58 → ((k : ℕ) → colon < k → k < length value → get_or value k 0 ≡ 58 → ⊥) → FindsValue (λ (y : Among × ℕ). IsAmong kind y.0 × IsCount digits y.1) r → FindsValue (λ (y : Among × ℕ). IsCopies value y.0 y.1) r
copies_cut value kind digits x colon r front back is later h = found value kind digits r (cut_is value kind digits x colon front back is later) h
