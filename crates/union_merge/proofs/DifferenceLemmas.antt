-- The lines of one set that another lacks.
use Rattle.std.proofs.Common.{◌≡◌, ◌⊎◌, ◌↔◌, inl, inr, ℕ, List, [], ◌∷◌, ◌++◌, Bool, true, false, cond, ◌||◌, not, filter, refl, sym, ap, subst, ◌∙◌, true≢false}
use Rattle.std.specs.Prelude.{IsTrue, bytes_eq}
use Rattle.std.proofs.lemmas.Bool.{cases_Bool, or_right}
use Rattle.std.proofs.lemmas.Slice.Eq.{bytes_eq-Decides}
use Rattle.annex_base.specs.Lists.{Member}
use Rattle.annex_base.specs.ByteOrder.{IsInOrder}
use Rattle.annex_base.proofs.TextOrder.{order_nil, order_cons, order_head, order_tail, BeforeAll-member, BeforeAll-from_members}
use Rattle.annex_base.proofs.Lists.{Each-member, Each-from_members, Member-filter_from, Member-filter_parts}
use Rattle.union_merge.specs.LineSet.{IsLine, IsLineSet, has_line, with_line, union, difference}
use Rattle.union_merge.proofs.SetLemmas.{Lines, same_members, Member-union, union-left, union-right, union-in_order, union-nil}

-- ---- whether a line is in a set

any_member : (line : List ℕ) (lines : Lines) → has_line lines line ≡ true → Member line lines
any_member line [] any = cc
any_member line (x ∷ xs) any = go (bytes_eq line x) refl any (λ more. any_member line xs more)
  where
    go : (b : Bool) → bytes_eq line x ≡ b → (b || has_line xs line) ≡ true → (has_line xs line ≡ true → Member line xs) → Member line (x ∷ xs)
    go true is more later = inl ((bytes_eq-Decides line x).0 is)
    go false is more later = inr (later more)

member_any : (line : List ℕ) (lines : Lines) → Member line lines → has_line lines line ≡ true
member_any line [] among = absurd among
member_any line (x ∷ xs) among = elim among [
  | inl same ↦ rw ((bytes_eq-Decides line x).1 same) refl
  | inr later ↦ or_right (bytes_eq line x) (has_line xs line) (member_any line xs later)
]

-- the test by a set of lines is the test of each line
pub any_is : (line : List ℕ) (lines : Lines) (b : Bool) → IsTrue b ↔ Member line lines → b ≡ has_line lines line
any_is line lines true is = sym (member_any line lines (is.0 refl))
any_is line lines false is = go (has_line lines line) refl
  where
    go : (c : Bool) → has_line lines line ≡ c → false ≡ has_line lines line
    go true any = absurd (true≢false (sym (is.1 (any_member line lines any))))
    go false none = sym none

-- ---- what a filter leaves

pub filter-in_order : (p : List ℕ → Bool) (xs : Lines) → IsInOrder xs → IsInOrder (filter p xs)
filter-in_order p [] sorted = order_nil
filter-in_order p (x ∷ xs) sorted = go (p x) (filter-in_order p xs (order_tail x xs sorted))
  where
    go : (b : Bool) → IsInOrder (filter p xs) → IsInOrder (cond b (x ∷ filter p xs) (filter p xs))
    go true rest = order_cons x (filter p xs) (BeforeAll-from_members x (filter p xs) (λ y among. BeforeAll-member x y xs (order_head x xs sorted) ((Member-filter_parts p xs y among).0))) rest
    go false rest = rest

pub difference-is_set : (xs ys : Lines) → IsLineSet xs → IsLineSet (difference xs ys)
difference-is_set xs ys is = record {
  sorted = filter-in_order (λ line. not (has_line ys line)) xs is.sorted;
  each = Each-from_members IsLine (difference xs ys) (λ y among. Each-member IsLine xs y is.each (Member-filter_parts (λ line. not (has_line ys line)) xs y among).0);
}

-- ---- the lines of both

-- a line of the first is in the second, or in the difference
pub difference-member : (z : List ℕ) (xs ys : Lines) → Member z xs → Member z (difference xs ys) ⊎ Member z ys
difference-member z xs ys among = elim (cases_Bool (has_line ys z)) [
  | inl old ↦ inr (any_member z ys old)
  | inr new ↦ inl (Member-filter_from (λ line. not (has_line ys line)) xs z among (ap not new))
]

pub difference-parts : (z : List ℕ) (xs ys : Lines) → Member z (difference xs ys) → Member z xs × (Member z ys → ⊥)
difference-parts z xs ys among =
    let both = Member-filter_parts (λ line. not (has_line ys line)) xs z among in
    (both.0, λ there. true≢false (sym both.1 ∙ ap not (member_any z ys there)))

pub difference-from : (z : List ℕ) (xs ys : Lines) → Member z xs → (Member z ys → ⊥) → Member z (difference xs ys)
difference-from z xs ys among none = elim (difference-member z xs ys among) [ inl new ↦ new | inr old ↦ absurd (none old) ]

-- the lines that are lacking make a set the union
pub union-difference : (xs ys : Lines) → IsInOrder xs → union xs (difference ys xs) ≡ union xs ys
union-difference xs ys sorted =
    same_members (union xs (difference ys xs)) (union xs ys) (union-in_order xs (difference ys xs) sorted) (union-in_order xs ys sorted)
    (λ z among. elim (Member-union z xs (difference ys xs) among) [
      | inl left ↦ union-left z xs ys left
      | inr right ↦ union-right z xs ys (Member-filter_parts (λ line. not (has_line xs line)) ys z right).0
    ])
    (λ z among. elim (Member-union z xs ys among) [
      | inl left ↦ union-left z xs (difference ys xs) left
      | inr right ↦ elim (difference-member z ys xs right) [
        | inl new ↦ union-right z xs (difference ys xs) new
        | inr old ↦ union-left z xs (difference ys xs) old
      ]
    ])

-- lines that a set lacks are taken off its union with them
pub difference-union : (xs ys : Lines) → IsInOrder xs → difference ys xs ≡ ys → difference (union xs ys) ys ≡ xs
difference-union xs ys sorted lacks =
    same_members (difference (union xs ys) ys) xs (filter-in_order (λ line. not (has_line ys line)) (union xs ys) (union-in_order xs ys sorted)) sorted
    (λ z among.
    let left = difference-parts z (union xs ys) ys among in
    elim (Member-union z xs ys left.0) [ inl own ↦ own | inr new ↦ absurd (left.1 new) ])
    (λ z among. difference-from z (union xs ys) ys (union-left z xs ys among) (λ new. (difference-parts z ys xs (subst (Member z) (sym lacks) new)).1 among))

-- the lines of both in one list are the lines of both
pub union-joined : (xs ys : Lines) → IsInOrder xs → union [] (xs ++ ys) ≡ union xs ys
union-joined xs ys sorted = union-append [] xs ys ∙ ap (λ w. union w ys) (union-nil xs sorted) where
  union-append : (zs xs ys : Lines) → union zs (xs ++ ys) ≡ union (union zs xs) ys
  union-append zs [] ys = refl
  union-append zs (x ∷ xs) ys = union-append (with_line zs x) xs ys
