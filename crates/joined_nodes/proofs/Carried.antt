-- Frames are carried between two of the nodes, and between one and each other one.
use Rattle.std.proofs.Common.{◌≡◌, ◌≢◌, ◌<◌, ◌+◌, ◌⊎◌, inl, inr, arith, ℕ, zero, suc, List, [], ◌∷◌, ◌++◌, Some, length, get_or, slice_set, refl, sym, ap, subst, ◌∙◌}
use Rattle.std.specs.Prelude.{slice_get}
use Rattle.std.proofs.lemmas.List.{length-append}
use Rattle.std.proofs.lemmas.Option.{same_Some, slice_get-get_or}
use Rattle.annex_base.proofs.Lists.{slice_get-left}
use Rattle.link_ring.specs.Ends.{EndView}
use Rattle.node_ends.specs.Joined.{AreCarried, AreJoined}
use Rattle.repo_node.specs.Nodes.{NodeView}
use Rattle.joined_nodes.specs.Carrying.{AreCarriedTwo, IsCarried}
use Rattle.joined_nodes.specs.Joined.{AreNodes, with_links}
use Rattle.joined_nodes.proofs.Setting.{set_at, set_count, set_other, set_same}

-- ---- a list in two parts

set_front : {X : Type 0} (xs ys : List X) (i : ℕ) (x : X) → i < length xs → slice_set xs i x ++ ys ≡ slice_set (xs ++ ys) i x
set_front [] ys i x within = absurd (omega (arith, within))
set_front (z ∷ xs) ys zero x within = refl
set_front (z ∷ xs) ys (suc i) x within = ap (λ zs. z ∷ zs) (set_front xs ys i x (omega (arith, within)))

set_back : {X : Type 0} (xs ys : List X) (y : X) → slice_set (xs ++ ys) (length xs) y ≡ xs ++ slice_set ys 0 y
set_back [] ys y = refl
set_back (z ∷ xs) ys y = ap (λ zs. z ∷ zs) (set_back xs ys y)

-- one of the first part is set, and the first one of the second part
pub two_set : {X : Type 0} (xs ys : List X) (i : ℕ) (x y : X) → i < length xs → slice_set (slice_set (xs ++ ys) i x) (length xs) y ≡ slice_set xs i x ++ slice_set ys 0 y
two_set xs ys i x y within =
    ap (λ zs. slice_set zs (length xs) y) (sym (set_front xs ys i x within))
    ∙ (ap (λ n. slice_set (slice_set xs i x ++ ys) n y) (sym (set_count xs i x)) ∙ set_back (slice_set xs i x) ys y)

pub get_back : {X : Type 0} (xs ys : List X) → slice_get (xs ++ ys) (length xs) ≡ slice_get ys 0
get_back [] ys = refl
get_back (x ∷ xs) ys = get_back xs ys

-- ---- two nodes

pub two_carried : {K : Type 0} (was : List (NodeView K)) (i j : ℕ) (a b x y : NodeView K) → i ≢ j → slice_get was i ≡ Some a → slice_get was j ≡ Some b → IsCarried i j b a x → IsCarried j i a b y
    → AreCarriedTwo i j was (slice_set (slice_set was i x) j y)
two_carried {K} was i j a b x y apart at_a at_b first second = record {
  count = set_count (slice_set was i x) j y ∙ set_count was i x;
  others = λ k not_i not_j. set_other (slice_set was i x) j k y not_j ∙ set_other was i k x not_i;
  first = λ a' b' x' at_a' at_b' at_x.
      subst (λ n. IsCarried i j b' n x') (same i a a' at_a at_a') (subst (λ n. IsCarried i j n a x') (same j b b' at_b at_b')
      (subst (λ n. IsCarried i j b a n) (same_Some x x' (sym (set_same was i a x at_a) ∙ (sym (set_other (slice_set was i x) j i y apart) ∙ at_x))) first));
  second = λ a' b' y' at_a' at_b' at_y.
      subst (λ n. IsCarried j i n b' y') (same i a a' at_a at_a') (subst (λ n. IsCarried j i a n y') (same j b b' at_b at_b')
      (subst (λ n. IsCarried j i a b n) (same_Some y y' (sym (set_same (slice_set was i x) j b y (set_other was i j x (λ e. apart (sym e)) ∙ at_b)) ∙ at_y)) second));
} where
  same : (o : ℕ) (m n : NodeView K) → slice_get was o ≡ Some m → slice_get was o ≡ Some n → m ≡ n
  same o m n at_m at_n = same_Some m n (sym at_m ∙ at_n)

-- the laws of ends that are joined
pub record Laws : Type 0 where
  pub other : (a b : ℕ) (xs ys : List EndView) → AreJoined a b xs ys → AreJoined b a ys xs
  pub elsewhere : (a b c : ℕ) (xs now ys zs : List EndView) → c ≢ b → AreCarried a b xs now ys → AreJoined a c xs zs → AreJoined a c now zs

-- what stands at a place where two were set
abbrev Stood : {K : Type 0} (was : List (NodeView K)) (i j : ℕ) (x y : NodeView K) (k : ℕ) (n : NodeView K) → Type 0
Stood was i j x y k n = ((k ≡ j) × (n ≡ y)) ⊎ (((k ≡ i) × (n ≡ x)) ⊎ ((k ≢ i) × (k ≢ j) × (slice_get was k ≡ Some n)))

stood : {K : Type 0} (was : List (NodeView K)) (i j : ℕ) (x y : NodeView K) (k : ℕ) (n : NodeView K) → slice_get (slice_set (slice_set was i x) j y) k ≡ Some n → Stood was i j x y k n
stood was i j x y k n at = elim (set_at (slice_set was i x) j k n y at) [
  | inl h ↦ inl h
  | inr h ↦ elim (set_at was i k n x h.1) [
    | inl g ↦ inr (inl g)
    | inr g ↦ inr (inr (g.0, h.0, g.1))
  ]
]

pub two_nodes : Laws → {K : Type 0} (was : List (NodeView K)) (i j : ℕ) (a b x y : NodeView K) → AreNodes was → i ≢ j → slice_get was i ≡ Some a → slice_get was j ≡ Some b → IsCarried i j b a x → IsCarried j i a b y
    → AreJoined i j x.parts.links y.parts.links → AreNodes (slice_set (slice_set was i x) j y)
two_nodes laws {K} was i j a b x y all apart at_a at_b first second joined = record {
  numbers = λ k n at. elim (stood was i j x y k n at) [
    | inl h ↦ rw (h.1, h.0) (ap (λ m. m.setup.number) second.rest ∙ all.numbers j b at_b)
    | inr h ↦ elim h [
      | inl g ↦ rw (g.1, g.0) (ap (λ m. m.setup.number) first.rest ∙ all.numbers i a at_a)
      | inr g ↦ all.numbers k n g.2
    ]
  ];
  counts = λ k n at. elim (stood was i j x y k n at) [
    | inl h ↦ rw h.1 (ap (λ m. length m.setup.repos) second.rest ∙ (all.counts j b at_b ∙ sym count))
    | inr h ↦ elim h [
      | inl g ↦ rw g.1 (ap (λ m. length m.setup.repos) first.rest ∙ (all.counts i a at_a ∙ sym count))
      | inr g ↦ all.counts k n g.2 ∙ sym count
    ]
  ];
  joined = λ k l m n other at_m at_n. elim (stood was i j x y k m at_m) [
    | inl h ↦ elim (stood was i j x y l n at_n) [
      | inl h' ↦ absurd (other (h.0 ∙ sym h'.0))
      | inr h' ↦ elim h' [
        | inl g ↦ rw (h.1, h.0, g.1, g.0) (laws.other i j x.parts.links y.parts.links joined)
        | inr g ↦ rw (h.1, h.0) (second_so l n g.0 g.1 g.2)
      ]
    ]
    | inr h ↦ elim h [
      | inl g ↦ elim (stood was i j x y l n at_n) [
        | inl h' ↦ rw (g.1, g.0, h'.1, h'.0) joined
        | inr h' ↦ elim h' [
          | inl g' ↦ absurd (other (g.0 ∙ sym g'.0))
          | inr g' ↦ rw (g.1, g.0) (first_so l n g'.0 g'.1 g'.2)
        ]
      ]
      | inr g ↦ elim (stood was i j x y l n at_n) [
        | inl h' ↦ rw (h'.1, h'.0) (laws.other j k y.parts.links m.parts.links (second_so k m g.0 g.1 g.2))
        | inr h' ↦ elim h' [
          | inl g' ↦ rw (g'.1, g'.0) (laws.other i k x.parts.links m.parts.links (first_so k m g.0 g.1 g.2))
          | inr g' ↦ all.joined k l m n other g.2 g'.2
        ]
      ]
    ]
  ];
} where
  count : length (slice_set (slice_set was i x) j y) ≡ length was
  count = set_count (slice_set was i x) j y ∙ set_count was i x

  first_so : (l : ℕ) (n : NodeView K) → l ≢ i → l ≢ j → slice_get was l ≡ Some n → AreJoined i l x.parts.links n.parts.links
  first_so l n not_i not_j at = laws.elsewhere i j l a.parts.links x.parts.links b.parts.links n.parts.links not_j first.links (all.joined i l a n (λ e. not_i (sym e)) at_a at)

  second_so : (l : ℕ) (n : NodeView K) → l ≢ i → l ≢ j → slice_get was l ≡ Some n → AreJoined j l y.parts.links n.parts.links
  second_so l n not_i not_j at = laws.elsewhere j i l b.parts.links y.parts.links a.parts.links n.parts.links not_i second.links (all.joined j l b n (λ e. not_j (sym e)) at_b at)

-- ---- as they are called

pub at_front : {K : Type 0} (whole fs bs : List (NodeView K)) (i : ℕ) (d : NodeView K) → whole ≡ fs ++ bs → i < length fs → slice_get whole i ≡ Some (get_or fs i d)
at_front whole fs bs i d is within = ap (λ xs. slice_get xs i) is ∙ slice_get-left fs bs i (get_or fs i d) (slice_get-get_or fs i d within)

pub at_back : {K : Type 0} (whole fs bs : List (NodeView K)) (j : ℕ) (d : NodeView K) → whole ≡ fs ++ bs → length fs ≡ j → j < length whole → slice_get whole j ≡ Some (get_or bs 0 d)
at_back whole fs bs j d is front within =
    let count : length whole ≡ length fs + length bs = ap length is ∙ length-append fs bs in
    ap (λ xs. slice_get xs j) is ∙ (ap (λ n. slice_get (fs ++ bs) n) (sym front) ∙ (get_back fs bs ∙ slice_get-get_or bs 0 d (omega (arith, within, front, count))))

pub numbered_joined : {K : Type 0} (was : List (NodeView K)) (i j : ℕ) (a b : NodeView K) → AreNodes was → i ≢ j → slice_get was i ≡ Some a → slice_get was j ≡ Some b → AreJoined a.setup.number b.setup.number a.parts.links b.parts.links
numbered_joined was i j a b all apart at_a at_b = rw (all.numbers i a at_a, all.numbers j b at_b) (all.joined i j a b apart at_a at_b)

-- what `carry_nodes` ensures of two nodes
pub record CarriedSo {K : Type 0} (a b x y : NodeView K) : Type 0 where
  pub joined : AreJoined a.setup.number b.setup.number x.parts.links y.parts.links
  pub first : AreCarried a.setup.number b.setup.number a.parts.links x.parts.links b.parts.links
  pub second : AreCarried b.setup.number a.setup.number b.parts.links y.parts.links a.parts.links
  pub rest : x ≡ with_links a x.parts.links
  pub other_rest : y ≡ with_links b y.parts.links

pub two_after : Laws → {K : Type 0} (was : List (NodeView K)) (i j : ℕ) (a b x y : NodeView K) → AreNodes was → i ≢ j → slice_get was i ≡ Some a → slice_get was j ≡ Some b → CarriedSo a b x y
    → AreCarriedTwo i j was (slice_set (slice_set was i x) j y) × AreNodes (slice_set (slice_set was i x) j y)
two_after laws was i j a b x y all apart at_a at_b so =
    let at_i : a.setup.number ≡ i = all.numbers i a at_a in
    let at_j : b.setup.number ≡ j = all.numbers j b at_b in
    let first : IsCarried i j b a x = record { rest = so.rest; links = subst (λ n. AreCarried i n a.parts.links x.parts.links b.parts.links) at_j (subst (λ n. AreCarried n b.setup.number a.parts.links x.parts.links b.parts.links) at_i so.first) } in
    let second : IsCarried j i a b y = record { rest = so.other_rest; links = subst (λ n. AreCarried j n b.parts.links y.parts.links a.parts.links) at_i (subst (λ n. AreCarried n a.setup.number b.parts.links y.parts.links a.parts.links) at_j so.second) } in
    let joined : AreJoined i j x.parts.links y.parts.links = subst (λ n. AreJoined i n x.parts.links y.parts.links) at_j (subst (λ n. AreJoined n b.setup.number x.parts.links y.parts.links) at_i so.joined) in
    (two_carried was i j a b x y apart at_a at_b first second, two_nodes laws was i j a b x y all apart at_a at_b first second joined)

-- of a list in two parts
pub parts_after : Laws → {K : Type 0} (whole fs bs : List (NodeView K)) (i j : ℕ) (a b x y : NodeView K) → whole ≡ fs ++ bs → length fs ≡ j → i < j → AreNodes whole → slice_get whole i ≡ Some a → slice_get whole j ≡ Some b → CarriedSo a b x y
    → AreCarriedTwo i j whole (slice_set fs i x ++ slice_set bs 0 y) × AreNodes (slice_set fs i x ++ slice_set bs 0 y)
parts_after laws {K} whole fs bs i j a b x y is front order all at_a at_b so =
    subst (λ (now : List (NodeView K)). AreCarriedTwo i j whole now × AreNodes now) same (two_after laws whole i j a b x y all (λ e. omega (arith, order, e)) at_a at_b so) where
      same : slice_set (slice_set whole i x) j y ≡ slice_set fs i x ++ slice_set bs 0 y
      same =
          ap (λ zs. slice_set (slice_set zs i x) j y) is
          ∙ (ap (λ n. slice_set (slice_set (fs ++ bs) i x) n y) (sym front) ∙ two_set fs bs i x y (omega (arith, order, front)))
