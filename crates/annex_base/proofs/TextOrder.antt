-- The order of texts by their bytes, and lists of texts in order.
use Rattle.std.proofs.Common.{◌≡◌, ◌⊎◌, inl, inr, ℕ, List, [], ◌∷◌, Some, refl, sym, ap, ◌∙◌}
use Rattle.std.specs.declared.cmp.Ordering.{Ordering}
use Rattle.std.specs.declared.cmp.Ordering.TheVariants.{Less, Equal, Greater}
use Rattle.std.specs.Ordering.{ordering_reverse, is_lt, is_some_and, nat_cmp}
use Rattle.std.specs.Cmp.Lexicographic.{slice_partial_cmp, lists_agrees}
use Rattle.std.specs.List.{AllByRecursion}
use Rattle.std.specs.List.Sorted.{IsStrictlySortedBy}
use Rattle.std.proofs.lemmas.Cmp.{nat_list_cmp_total, tied_itself}
use Rattle.std.proofs.lemmas.Map.Lookups.{exact_bytes}
use Rattle.annex_base.specs.ByteOrder.{text_cmp, Before, IsInOrder}
use Rattle.annex_base.specs.Lists.{Member}

pub order_cases : (o : Ordering) → (o ≡ Less) ⊎ (o ≡ Equal) ⊎ (o ≡ Greater)
order_cases Less = inl refl
order_cases Equal = inr (inl refl)
order_cases Greater = inr (inr refl)

pub by_order : {P : Type 0} (o : Ordering) → (o ≡ Less → P) → (o ≡ Equal → P) → (o ≡ Greater → P) → P
by_order Less f g h = f refl
by_order Equal f g h = g refl
by_order Greater f g h = h refl

pub same_text : (x y : List ℕ) → text_cmp x y ≡ Equal → x ≡ y
same_text x y tied = exact_bytes x y tied

pub text_cmp-itself : (x : List ℕ) → text_cmp x x ≡ Equal
text_cmp-itself x = tied_itself nat_list_cmp_total x

pub text_cmp-same : (x y : List ℕ) → x ≡ y → text_cmp x y ≡ Equal
text_cmp-same x y same = ap (text_cmp x) (sym same) ∙ text_cmp-itself x

pub after_before : (x y : List ℕ) → text_cmp x y ≡ Greater → Before y x
after_before x y above = nat_list_cmp_total.antisymm y x ∙ ap ordering_reverse above

pub before_after : (x y : List ℕ) → Before x y → text_cmp y x ≡ Greater
before_after x y below = nat_list_cmp_total.antisymm y x ∙ ap ordering_reverse below

pub Before-trans : (x y z : List ℕ) → Before x y → Before y z → Before x z
Before-trans x y z first second = nat_list_cmp_total.trans x y z first second

less_equal : Less ≡ Equal → ⊥
less_equal e = cc

pub Before-itself : (x : List ℕ) → Before x x → ⊥
Before-itself x below = less_equal (sym below ∙ text_cmp-itself x)

pub Before-other : (x y : List ℕ) → Before x y → x ≡ y → ⊥
Before-other x y below same = less_equal (sym below ∙ text_cmp-same x y same)

pub Before-back : (x y : List ℕ) → Before x y → Before y x → ⊥
Before-back x y first second = Before-itself x (Before-trans x y x first second)

-- two texts are one, or one of them comes before the other
pub data Compared (x y : List ℕ) : Type 0 where
  below : Before x y → Compared x y
  tied : x ≡ y → Compared x y
  above : Before y x → Compared x y

pub compared : (x y : List ℕ) → Compared x y
compared x y = elim (order_cases (text_cmp x y)) [
  | inl less ↦ below less
  | inr other ↦ elim other [
    | inl same ↦ tied (same_text x y same)
    | inr more ↦ above (after_before x y more)
  ]
]

-- what `<` on slices tests
pub partial_lt-texts : (x y : List ℕ) → is_some_and is_lt (slice_partial_cmp (λ a b. Some (nat_cmp a b)) x y) ≡ is_lt (text_cmp x y)
partial_lt-texts x y = ap (is_some_and is_lt) (lists_agrees (λ a b. refl) x y)

-- ---- texts in rising order

-- the text comes before each of these
abbrev pub BeforeAll : List ℕ → List (List ℕ) → Type 0
BeforeAll x ys = AllByRecursion (λ y. text_cmp x y ≡ Less) ys

pub order_nil : IsInOrder []
unfolding IsStrictlySortedBy
order_nil = tt

pub order_cons : (x : List ℕ) (xs : List (List ℕ)) → BeforeAll x xs → IsInOrder xs → IsInOrder (x ∷ xs)
unfolding IsStrictlySortedBy
order_cons x xs first rest = (first, rest)

pub order_head : (x : List ℕ) (xs : List (List ℕ)) → IsInOrder (x ∷ xs) → BeforeAll x xs
unfolding IsStrictlySortedBy
order_head x xs sorted = sorted.0

pub order_tail : (x : List ℕ) (xs : List (List ℕ)) → IsInOrder (x ∷ xs) → IsInOrder xs
unfolding IsStrictlySortedBy
order_tail x xs sorted = sorted.1

pub BeforeAll-member : (x y : List ℕ) (ys : List (List ℕ)) → BeforeAll x ys → Member y ys → Before x y
BeforeAll-member x y [] all among = absurd among
BeforeAll-member x y (z ∷ zs) all among = elim among [
  | inl same ↦ ap (text_cmp x) same ∙ all.0
  | inr later ↦ BeforeAll-member x y zs all.1 later
]

pub BeforeAll-from_members : (x : List ℕ) (ys : List (List ℕ)) → ((y : List ℕ) → Member y ys → Before x y) → BeforeAll x ys
BeforeAll-from_members x [] f = tt
BeforeAll-from_members x (z ∷ zs) f = (f z (inl refl), BeforeAll-from_members x zs (λ y later. f y (inr later)))

pub BeforeAll-trans : (x y : List ℕ) (ys : List (List ℕ)) → Before x y → BeforeAll y ys → BeforeAll x ys
BeforeAll-trans x y [] less all = tt
BeforeAll-trans x y (z ∷ zs) less all = (Before-trans x y z less all.0, BeforeAll-trans x y zs less all.1)
