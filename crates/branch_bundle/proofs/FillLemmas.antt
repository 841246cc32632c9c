-- Texts that are filled up with the greatest byte.
use Rattle.std.proofs.Common.{◌≡◌, ◌⊎◌, inl, inr, ℕ, zero, suc, ◌+◌, ◌<◌, ◌≤◌, true, false, List, [], ◌∷◌, ◌++◌, length, arith, refl, sym, ap, subst, ◌∙◌, append_assoc, get_or, take, drop, take-append-drop}
use Rattle.std.specs.declared.cmp.Ordering.{Ordering}
use Rattle.std.specs.declared.cmp.Ordering.TheVariants.{Less, Equal, Greater}
use Rattle.std.specs.Ordering.{nat_cmp, ordering_then, is_lt}
use Rattle.std.proofs.lemmas.Bool.{lt-ltb, le-ltb, cases_lt, true≢false}
use Rattle.std.proofs.lemmas.Cmp.{ranked, tied_itself, nat_cmp_total}
use Rattle.std.proofs.lemmas.Bool.Decides.{eqb_tells}
use Rattle.std.specs.Bool.{◌==◌, nat_lt}
use Rattle.std.specs.List.{prefix_len}
use Rattle.annex_base.specs.ByteOrder.{text_cmp, Before}
use Rattle.annex_base.specs.Lists.{Each}
use Rattle.annex_base.specs.Lines.{newline}
use Rattle.annex_base.proofs.Numbers.{nat_cmp_less}
use Rattle.branch_bundle.specs.Bundle.{IsByte}
use Rattle.branch_bundle.specs.Parts.{IsFree, fill}

-- ---- the order, byte by byte

nat_same : (x : ℕ) → nat_cmp x x ≡ Equal
nat_same x = tied_itself nat_cmp_total x

pub before_head : (x y : ℕ) (xs ys : List ℕ) → x < y → Before (x ∷ xs) (y ∷ ys)
before_head x y xs ys less = ap (λ o. ordering_then o (text_cmp xs ys)) (nat_cmp_less x y less)

pub before_tail : (x : ℕ) (xs ys : List ℕ) → Before xs ys → Before (x ∷ xs) (x ∷ ys)
before_tail x xs ys less = ap (λ o. ordering_then o (text_cmp xs ys)) (nat_same x) ∙ less

split_order : (x y : ℕ) (xs ys : List ℕ) (o : Ordering) → o ≡ nat_cmp x y → ordering_then o (text_cmp xs ys) ≡ Less → (x < y) ⊎ ((x ≡ y) × Before xs ys)
split_order x y xs ys Less is less = inl (ranked x y Less is)
split_order x y xs ys Equal is less = inr (ranked x y Equal is, less)
split_order x y xs ys Greater is less = absurd (greater_less less) where
  greater_less : Greater ≡ Less → ⊥
  greater_less e = cc

pub before_cases : (x y : ℕ) (xs ys : List ℕ) → Before (x ∷ xs) (y ∷ ys) → (x < y) ⊎ ((x ≡ y) × Before xs ys)
before_cases x y xs ys less = split_order x y xs ys (nat_cmp x y) refl less

equal_less : Equal ≡ Less → ⊥
equal_less e = cc

greater_less : Greater ≡ Less → ⊥
greater_less e = cc

pub before_none : (q : List ℕ) → Before q [] → ⊥
before_none [] less = equal_less less
before_none (x ∷ xs) less = greater_less less

-- ---- filled up

pub fill-bytes : (n : ℕ) → Each IsByte (fill n)
fill-bytes zero = tt
fill-bytes (suc n) = (omega arith, fill-bytes n)

pub fill-free : (n : ℕ) → IsFree newline (fill n)
fill-free zero among = among
fill-free (suc n) among = elim among [ inl same ↦ omega (arith, same) | inr later ↦ fill-free n later ]

pub length-fill : (n : ℕ) → length (fill n) ≡ n
length-fill zero = refl
length-fill (suc n) = omega (arith, length-fill n)

-- a text of bytes comes before a longer one of the greatest byte
pub before_fill : (q : List ℕ) (m : ℕ) → Each IsByte q → length q < m → Before q (fill m)
before_fill q zero bytes long = absurd (omega (arith, long))
before_fill [] (suc m) bytes long = refl
before_fill (x ∷ q) (suc m) bytes long = elim (byte_cases x bytes.0) [
  | inl low ↦ before_head x 255 q (fill m) low
  | inr top ↦ subst (λ w. Before (w ∷ q) (255 ∷ fill m)) (sym top) (before_tail 255 q (fill m) (before_fill q m bytes.1 (omega (arith, long))))
] where
  byte_cases : (x : ℕ) → x < 256 → (x < 255) ⊎ (x ≡ 255)
  byte_cases x small = elim (cases_lt x 255) [ inl low ↦ inl low | inr high ↦ inr (omega arith) ]

-- what comes before some text with this front comes before the front filled up, where that is long enough
pub before_filled : (q p c : List ℕ) (m : ℕ) → Each IsByte q → length q < m → Before q (p ++ c) → Before q (p ++ fill m)
before_filled q [] c m bytes long less = before_fill q m bytes long
before_filled [] (y ∷ p) c m bytes long less = refl
before_filled (x ∷ q) (y ∷ p) c m bytes long less = elim (before_cases x y q (p ++ c) less) [
  | inl low ↦ before_head x y q (p ++ fill m) low
  | inr same ↦ subst (λ w. Before (x ∷ q) (w ∷ (p ++ fill m))) same.0 (before_tail x q (p ++ fill m) (before_filled q p c m bytes.1 (omega (arith, long)) same.1))
]

-- no text of that many bytes or fewer comes after it
before_most : (q c : List ℕ) (m : ℕ) → Each IsByte c → length c ≤ m → Before q c → Before q (fill m)
before_most q [] m bytes short less = absurd (before_none q less)
before_most q (y ∷ c) zero bytes short less = absurd (omega (arith, short))
before_most [] (y ∷ c) (suc m) bytes short less = refl
before_most (x ∷ q) (y ∷ c) (suc m) bytes short less = elim (before_cases x y q c less) [
  | inl low ↦ before_head x 255 q (fill m) (omega (arith, low, bytes.0))
  | inr same ↦ elim (cases_lt x 255) [
    | inl low ↦ before_head x 255 q (fill m) low
    | inr high ↦
        let top : x ≡ 255 = omega (arith, high, same.0, bytes.0) in
        subst (λ w. Before (w ∷ q) (255 ∷ fill m)) (sym top) (before_tail 255 q (fill m) (before_most q c m bytes.1 (omega (arith, short)) same.1))
  ]
]

pub before_best : (q p c : List ℕ) (m : ℕ) → Each IsByte c → length c ≤ m → Before q (p ++ c) → Before q (p ++ fill m)
before_best q [] c m bytes short less = before_most q c m bytes short less
before_best [] (y ∷ p) c m bytes short less = refl
before_best (x ∷ q) (y ∷ p) c m bytes short less = elim (before_cases x y q (p ++ c) less) [
  | inl low ↦ before_head x y q (p ++ fill m) low
  | inr same ↦ subst (λ w. Before (x ∷ q) (w ∷ (p ++ fill m))) same.0 (before_tail x q (p ++ fill m) (before_best q p c m bytes short same.1))
]

-- once it is longer, more of it changes nothing
fill_cmp : (q : List ℕ) (a b : ℕ) → length q < a → length q < b → text_cmp q (fill a) ≡ text_cmp q (fill b)
fill_cmp q zero b long room = absurd (omega (arith, long))
fill_cmp q (suc a) zero long room = absurd (omega (arith, room))
fill_cmp [] (suc a) (suc b) long room = refl
fill_cmp (x ∷ q) (suc a) (suc b) long room = ap (ordering_then (nat_cmp x 255)) (fill_cmp q a b (omega (arith, long)) (omega (arith, room)))

pub filled_cmp : (q p : List ℕ) (a b : ℕ) → length q < length p + a → length q < length p + b → text_cmp q (p ++ fill a) ≡ text_cmp q (p ++ fill b)
filled_cmp q [] a b long room = fill_cmp q a b (omega (arith, long)) (omega (arith, room))
filled_cmp [] (y ∷ p) a b long room = refl
filled_cmp (x ∷ q) (y ∷ p) a b long room = ap (ordering_then (nat_cmp x y)) (filled_cmp q p a b (omega (arith, long)) (omega (arith, room)))

-- ---- how many of the greatest byte stand in front

abbrev pub greatest : List ℕ → ℕ
greatest text = prefix_len (λ b. b == 255) text

-- a text of bytes comes before so many of the greatest byte exactly where it begins with fewer
pub fill_test : (text : List ℕ) (n : ℕ) → Each IsByte text → is_lt (text_cmp text (fill n)) ≡ nat_lt (greatest text) n
fill_test [] zero bytes = refl
fill_test (x ∷ xs) zero bytes = sym (le-ltb (greatest (x ∷ xs)) 0 (omega arith))
fill_test [] (suc n) bytes = sym (lt-ltb 0 (suc n) (omega arith))
fill_test (x ∷ xs) (suc n) bytes = elim (eqb_tells x 255) [
  | inl top ↦
      let more : greatest (x ∷ xs) ≡ 1 + greatest xs = let e = top.0 in rw e refl in
      ap is_lt (ap (λ k. ordering_then (nat_cmp k 255) (text_cmp xs (fill n))) top.1 ∙ ap (λ o. ordering_then o (text_cmp xs (fill n))) (nat_same 255))
      ∙ fill_test xs n bytes.1 ∙ one_more (greatest xs) n ∙ ap (λ k. nat_lt k (suc n)) (sym more)
  | inr low ↦
      let none : greatest (x ∷ xs) ≡ 0 = let e = low.0 in rw e refl in
      ap is_lt (before_head x 255 xs (fill n) (below_top x bytes.0 low.1)) ∙ sym (lt-ltb 0 (suc n) (omega arith)) ∙ ap (λ k. nat_lt k (suc n)) (sym none)
] where
  one_more : (a b : ℕ) → nat_lt a b ≡ nat_lt (1 + a) (suc b)
  one_more a b = elim (cases_lt a b) [
    | inl less ↦ lt-ltb a b less ∙ sym (lt-ltb (1 + a) (suc b) (omega arith))
    | inr more ↦ le-ltb a b more ∙ sym (le-ltb (1 + a) (suc b) (omega arith))
  ]

  below_top : (x : ℕ) → x < 256 → (x ≡ 255 → ⊥) → x < 255
  below_top x small other = elim (cases_lt x 255) [ inl low ↦ low | inr high ↦ absurd (other (omega arith)) ]

-- ---- fronts of one length decide first

then_assoc : (a b c : Ordering) → ordering_then (ordering_then a b) c ≡ ordering_then a (ordering_then b c)
then_assoc Less b c = refl
then_assoc Equal b c = refl
then_assoc Greater b c = refl

text_cmp-append : (a b us vs : List ℕ) → length a ≡ length b → text_cmp (a ++ us) (b ++ vs) ≡ ordering_then (text_cmp a b) (text_cmp us vs)
text_cmp-append [] [] us vs long = refl
text_cmp-append [] (y ∷ b) us vs long = absurd (omega (arith, long))
text_cmp-append (x ∷ a) [] us vs long = absurd (omega (arith, long))
text_cmp-append (x ∷ a) (y ∷ b) us vs long = ap (ordering_then (nat_cmp x y)) (text_cmp-append a b us vs (omega (arith, long))) ∙ sym (then_assoc (nat_cmp x y) (text_cmp a b) (text_cmp us vs))

pub filled_parts : (text front head tail start more : List ℕ) (n : ℕ) (o : Ordering) → text ≡ head ++ tail → front ≡ start ++ more → length head ≡ length start → o ≡ text_cmp head start
    → is_lt (text_cmp text (front ++ fill n)) ≡ is_lt (ordering_then o (text_cmp tail (more ++ fill n)))
filled_parts text front head tail start more n o one two long is =
    ap is_lt (ap (λ (w : List ℕ). text_cmp w (front ++ fill n)) one ∙ ap (λ (w : List ℕ). text_cmp (head ++ tail) (w ++ fill n)) two ∙ ap (text_cmp (head ++ tail)) (append_assoc start more (fill n))
    ∙ text_cmp-append head start tail (more ++ fill n) long ∙ ap (λ k. ordering_then k (text_cmp tail (more ++ fill n))) (sym is))

pub filled_more : (tail more : List ℕ) (n : ℕ) → tail ≡ [] → 0 < length more → is_lt (text_cmp tail (more ++ fill n)) ≡ true
filled_more tail [] n none some = absurd (omega (arith, some))
filled_more tail (b ∷ bs) n none some = ap (λ (w : List ℕ). is_lt (text_cmp w (b ∷ (bs ++ fill n)))) none

pub Each-from_reads : (xs : List ℕ) → ((i : ℕ) → get_or xs i 0 < 256) → Each IsByte xs
Each-from_reads [] f = tt
Each-from_reads (x ∷ xs) f = (f 0, Each-from_reads xs (λ i. f (suc i)))

pub rejoined : (n : ℕ) (xs a b : List ℕ) → a ≡ take n xs → b ≡ drop n xs → xs ≡ a ++ b
rejoined n xs a b one two = sym (take-append-drop n xs) ∙ ap (λ (w : List ℕ). w ++ drop n xs) (sym one) ∙ ap (λ (w : List ℕ). a ++ w) (sym two)

pub some_more : (more : List ℕ) → false ≡ (length more == 0) → 0 < length more
some_more [] e = absurd (true≢false (sym e))
some_more (x ∷ xs) e = omega arith

pub no_more : (more : List ℕ) → true ≡ (length more == 0) → more ≡ []
no_more [] e = refl
no_more (x ∷ xs) e = elim (eqb_tells (length (x ∷ xs)) 0) [ inl none ↦ absurd (omega (arith, none.1)) | inr some ↦ absurd (true≢false (e ∙ some.0)) ]
