-- Sets of lines: their elements, and that a set is one list.
use Rattle.std.proofs.Common.{◌≡◌, ◌⊎◌, inl, inr, ℕ, List, [], ◌∷◌, refl, sym, ap, subst, ◌∙◌}
use Rattle.annex_base.specs.ByteOrder.{text_cmp, Before, IsInOrder}
use Rattle.annex_base.specs.Lists.{Member, Each}
use Rattle.annex_base.proofs.Lists.{Each-member, Each-from_members}
use Rattle.annex_base.proofs.TextOrder.{below, tied, above, compared, text_cmp-same, before_after, Before-other, Before-back, order_nil, order_cons, order_head, order_tail, BeforeAll-member, BeforeAll-from_members, BeforeAll-trans}
use Rattle.union_merge.specs.LineSet.{IsLine, IsLineSet, with_line, union}

abbrev pub Lines : Type 0
Lines = List (List ℕ)

-- ---- a set is told by its elements

head_same : (x y : List ℕ) (xs ys : Lines) → IsInOrder (x ∷ xs) → IsInOrder (y ∷ ys) → Member x (y ∷ ys) → Member y (x ∷ xs) → x ≡ y
head_same x y xs ys first second forth back = elim forth [
  | inl same ↦ same
  | inr later ↦ elim back [
    | inl same ↦ sym same
    | inr after ↦ absurd (Before-back x y (BeforeAll-member x y xs (order_head x xs first) after) (BeforeAll-member y x ys (order_head y ys second) later))
  ]
]

tail_member : (x y z : List ℕ) (xs ys : Lines) → IsInOrder (x ∷ xs) → x ≡ y → Member z xs → Member z (y ∷ ys) → Member z ys
tail_member x y z xs ys sorted same among found = elim found [
  | inl first ↦ absurd (Before-other x z (BeforeAll-member x z xs (order_head x xs sorted) among) (same ∙ sym first))
  | inr later ↦ later
]

-- lists in order with the same elements are one
pub same_members : (xs ys : Lines) → IsInOrder xs → IsInOrder ys → ((z : List ℕ) → Member z xs → Member z ys) → ((z : List ℕ) → Member z ys → Member z xs) → xs ≡ ys
same_members [] [] first second forth back = refl
same_members [] (y ∷ ys) first second forth back = absurd (back y (inl refl))
same_members (x ∷ xs) [] first second forth back = absurd (forth x (inl refl))
same_members (x ∷ xs) (y ∷ ys) first second forth back =
    let same : x ≡ y = head_same x y xs ys first second (forth x (inl refl)) (back y (inl refl)) in
    let rest : xs ≡ ys = same_members xs ys (order_tail x xs first) (order_tail y ys second)
    (λ z among. tail_member x y z xs ys first same among (forth z (inr among)))
    (λ z among. tail_member y x z ys xs second (sym same) among (back z (inr among))) in
    ap (λ (w : List ℕ). w ∷ xs) same ∙ ap (λ (w : Lines). y ∷ w) rest

-- ---- one more line

pub with_line-below : (x k : List ℕ) (xs : Lines) → Before k x → with_line (x ∷ xs) k ≡ k ∷ x ∷ xs
with_line-below x k xs less = rw less refl

pub with_line-tied : (x k : List ℕ) (xs : Lines) → k ≡ x → with_line (x ∷ xs) k ≡ x ∷ xs
with_line-tied x k xs same = let e = text_cmp-same k x same in rw e refl

pub with_line-above : (x k : List ℕ) (xs : Lines) → Before x k → with_line (x ∷ xs) k ≡ x ∷ with_line xs k
with_line-above x k xs more = let e = before_after x k more in rw e refl

pub Member-with_line : (z k : List ℕ) (xs : Lines) → Member z (with_line xs k) → (z ≡ k) ⊎ Member z xs
Member-with_line z k [] among = elim among [ inl same ↦ inl same | inr none ↦ absurd none ]
Member-with_line z k (x ∷ xs) among = elim (compared k x) [
  | below less ↦ subst (Member z) (with_line-below x k xs less) among
  | tied same ↦ inr (subst (Member z) (with_line-tied x k xs same) among)
  | above more ↦ elim (subst (Member z) (with_line-above x k xs more) among) [
    | inl first ↦ inr (inl first)
    | inr later ↦ elim (Member-with_line z k xs later) [ inl new ↦ inl new | inr old ↦ inr (inr old) ]
  ]
]

pub with_line-new : (k : List ℕ) (xs : Lines) → Member k (with_line xs k)
with_line-new k [] = inl refl
with_line-new k (x ∷ xs) = elim (compared k x) [
  | below less ↦ subst (Member k) (sym (with_line-below x k xs less)) (inl refl)
  | tied same ↦ subst (Member k) (sym (with_line-tied x k xs same)) (inl same)
  | above more ↦ subst (Member k) (sym (with_line-above x k xs more)) (inr (with_line-new k xs))
]

pub with_line-old : (z k : List ℕ) (xs : Lines) → Member z xs → Member z (with_line xs k)
with_line-old z k [] among = absurd among
with_line-old z k (x ∷ xs) among = elim (compared k x) [
  | below less ↦ subst (Member z) (sym (with_line-below x k xs less)) (inr among)
  | tied same ↦ subst (Member z) (sym (with_line-tied x k xs same)) among
  | above more ↦ subst (Member z) (sym (with_line-above x k xs more)) (elim among [ inl first ↦ inl first | inr later ↦ inr (with_line-old z k xs later) ])
]

pub with_line-in_order : (k : List ℕ) (xs : Lines) → IsInOrder xs → IsInOrder (with_line xs k)
with_line-in_order k [] sorted = order_cons k [] tt order_nil
with_line-in_order k (x ∷ xs) sorted = elim (compared k x) [
  | below less ↦ subst IsInOrder (sym (with_line-below x k xs less)) (order_cons k (x ∷ xs) (less, BeforeAll-trans k x xs less (order_head x xs sorted)) sorted)
  | tied same ↦ subst IsInOrder (sym (with_line-tied x k xs same)) sorted
  | above more ↦ subst IsInOrder (sym (with_line-above x k xs more)) (order_cons x (with_line xs k)
      (BeforeAll-from_members x (with_line xs k) (λ y among. elim (Member-with_line y k xs among) [
        | inl new ↦ ap (text_cmp x) new ∙ more
        | inr old ↦ BeforeAll-member x y xs (order_head x xs sorted) old
      ]))
      (with_line-in_order k xs (order_tail x xs sorted)))
]

-- a line that is there adds nothing
pub with_line-there : (k : List ℕ) (xs : Lines) → IsInOrder xs → Member k xs → with_line xs k ≡ xs
with_line-there k xs sorted among = same_members (with_line xs k) xs (with_line-in_order k xs sorted) sorted
    (λ z found. elim (Member-with_line z k xs found) [ inl new ↦ subst (λ w. Member w xs) (sym new) among | inr old ↦ old ])
    (λ z found. with_line-old z k xs found)

-- ---- the lines of both

-- a line of both is a line of one of them
pub Member-union : (z : List ℕ) (xs ys : Lines) → Member z (union xs ys) → Member z xs ⊎ Member z ys
Member-union z xs [] among = inl among
Member-union z xs (y ∷ ys) among = elim (Member-union z (with_line xs y) ys among) [
  | inl first ↦ elim (Member-with_line z y xs first) [ inl new ↦ inr (inl new) | inr old ↦ inl old ]
  | inr later ↦ inr (inr later)
]

pub union-left : (z : List ℕ) (xs ys : Lines) → Member z xs → Member z (union xs ys)
union-left z xs [] among = among
union-left z xs (y ∷ ys) among = union-left z (with_line xs y) ys (with_line-old z y xs among)

pub union-right : (z : List ℕ) (xs ys : Lines) → Member z ys → Member z (union xs ys)
union-right z xs [] among = absurd among
union-right z xs (y ∷ ys) among = elim among [
  | inl first ↦ union-left z (with_line xs y) ys (subst (λ w. Member w (with_line xs y)) (sym first) (with_line-new y xs))
  | inr later ↦ union-right z (with_line xs y) ys later
]

pub union-in_order : (xs ys : Lines) → IsInOrder xs → IsInOrder (union xs ys)
union-in_order xs [] sorted = sorted
union-in_order xs (y ∷ ys) sorted = union-in_order (with_line xs y) ys (with_line-in_order y xs sorted)

pub union-each : (P : List ℕ → Type 0) (xs ys : Lines) → Each P xs → Each P ys → Each P (union xs ys)
union-each P xs ys first second = Each-from_members P (union xs ys) (λ y among. elim (Member-union y xs ys among) [
  | inl left ↦ Each-member P xs y first left
  | inr right ↦ Each-member P ys y second right
])

pub with_line-is_set : (k : List ℕ) (xs : Lines) → IsLineSet xs → IsLine k → IsLineSet (with_line xs k)
with_line-is_set k xs is line = record {
  sorted = with_line-in_order k xs is.sorted;
  each = union-each IsLine xs (k ∷ []) is.each (line, tt);
}

pub union-is_set : (xs ys : Lines) → IsLineSet xs → Each IsLine ys → IsLineSet (union xs ys)
union-is_set xs ys is lines = record { sorted = union-in_order xs ys is.sorted; each = union-each IsLine xs ys is.each lines }

pub empty-is_set : IsLineSet []
empty-is_set = record { sorted = order_nil; each = tt }

-- a list in order with the lines of both is their union
pub union-is : (xs ys zs : Lines) → IsInOrder xs → IsInOrder zs → ((z : List ℕ) → Member z zs → Member z xs ⊎ Member z ys) → ((z : List ℕ) → Member z xs → Member z zs) → ((z : List ℕ) → Member z ys → Member z zs) → zs ≡ union xs ys
union-is xs ys zs first sorted either left right = same_members zs (union xs ys) sorted (union-in_order xs ys first)
    (λ z among. elim (either z among) [ inl one ↦ union-left z xs ys one | inr other ↦ union-right z xs ys other ])
    (λ z among. elim (Member-union z xs ys among) [ inl one ↦ left z one | inr other ↦ right z other ])

-- what is in order is the set of its lines
pub union-nil : (xs : Lines) → IsInOrder xs → union [] xs ≡ xs
union-nil xs sorted = sym (union-is [] xs xs order_nil sorted (λ z among. inr among) (λ z none. absurd none) (λ z among. among))
