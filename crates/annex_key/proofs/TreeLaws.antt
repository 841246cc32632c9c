-- What the lists of a tree say: its paths and keys are those that a look-up finds.
use Rattle.std.proofs.Common.{◌≡◌, ◌≢◌, ◌⊎◌, inl, inr, ◌↔◌, ℕ, Bool, true, false, not, List, [], ◌∷◌, filter, slice_index_or, All, AllPairs, Contains, Some, refl, sym, ap, subst, ◌∙◌, arith, true≢false}
use Rattle.std.specs.declared.vec.Vec.{Vec}
use Rattle.std.specs.declared.alloc.Global.{Global}
use Rattle.std.specs.declared.cmp.Ordering.{Ordering}
use Rattle.std.specs.declared.cmp.Ordering.TheVariants.{Less, Equal, Greater}
use Rattle.std.specs.Ordering.{is_eq, match_ordering}
use Rattle.std.specs.List.{AllByRecursion}
use Rattle.std.specs.List.Sorted.{IsStrictlySortedBy}
use Rattle.std.specs.Map.{keys_of, values_of}
use Rattle.std.specs.BTreeMap.{is_at}
use Rattle.std.specs.Str.{bytes_eq}
use Rattle.std.proofs.lemmas.Bool.{cases_Bool}
use Rattle.std.proofs.lemmas.List.Elements.{Contains-append_cases, Contains-append_right, All-contains, All-from_recursion, filter_passes}
use Rattle.std.proofs.lemmas.List.Kept.{AllPairs-cons, AllPairs-filter}
use Rattle.std.proofs.lemmas.Map.Keys.{sorted_head, sorted_tail}
use Rattle.std.proofs.lemmas.Map.Text.{is_eq-slice_cmp}
use Rattle.std.proofs.lemmas.Slice.Eq.{bytes_eq-Decides}
use Rattle.annex_base.specs.ByteOrder.{text_cmp}
use Rattle.annex_base.proofs.Conditions.{bytes_eq-true}
use Rattle.annex_base.proofs.Lists.{filter_no, filter_yes}
use Rattle.std.proofs.lemmas.Option.{none-some, same_Some}
use Rattle.annex_key.specs.Tree.{Entries, with_key, key_of, paths_of, each_once, distinct_keys}
use Rattle.annex_base.specs.ByteOrder.{path_cmp}
use Rattle.annex_key.specs.TreeView.{view_of}

-- ---- elements

only_one : (x y : List ℕ) → Contains (x ∷ []) y → x ≡ y
only_one x y c = let first : c.0 ≡ 0 = omega (arith, c.1) in subst (λ k. slice_index_or (x ∷ []) k y ≡ y) first c.2

in_cons : (x y : List ℕ) (xs : List (List ℕ)) → Contains (x ∷ xs) y → (x ≡ y) ⊎ Contains xs y
in_cons x y xs c = elim (Contains-append_cases (x ∷ []) xs y c) [ inl here ↦ inl (only_one x y here) | inr there ↦ inr there ]

here : (x : List ℕ) (xs : List (List ℕ)) → Contains (x ∷ xs) x
here x xs = (0, omega arith, refl)

there : (x y : List ℕ) (xs : List (List ℕ)) → Contains xs y → Contains (x ∷ xs) y
there x y xs c = Contains-append_right (x ∷ []) xs y c

in_none : (y : List ℕ) → Contains [] y → ⊥
in_none y c = omega (arith, c.1)

are_bytes : (x y : List ℕ) → x ≡ y → bytes_eq x y ≡ true
are_bytes x y same = (bytes_eq-Decides x y).1 same

abbrev pub IsInOrder : Entries → Type 0
IsInOrder es = IsStrictlySortedBy text_cmp (keys_of es)

-- the first path isn't among the later ones
head_apart : (e : List ℕ × List ℕ) (es : Entries) (path : List ℕ) → IsInOrder (e ∷ es) → Contains (keys_of es) path → is_at (text_cmp path) e.0 ≡ false
head_apart e es path sorted among =
    elim (cases_Bool (is_at (text_cmp path) e.0)) [
      | inr apart ↦ apart
      | inl tied ↦
          let below : text_cmp e.0 path ≡ Less = All-contains (λ q. text_cmp e.0 q ≡ Less) (keys_of es) path (All-from_recursion (λ q. text_cmp e.0 q ≡ Less) (keys_of es) (sorted_head text_cmp e.0 (keys_of es) sorted)) among in
          let same : path ≡ e.0 = bytes_eq-true path e.0 (sym (is_eq-slice_cmp path e.0) ∙ tied) in
          absurd (true≢false (sym (are_bytes e.0 path (sym same)) ∙ sym (is_eq-slice_cmp e.0 path) ∙ ap is_eq below))
    ]

lookup-here : (e : List ℕ × List ℕ) (es : Entries) (path : List ℕ) → is_at (text_cmp path) e.0 ≡ true → key_of (e ∷ es) path ≡ Some e.1
lookup-here e es path is = rw is refl

lookup-there : (e : List ℕ × List ℕ) (es : Entries) (path : List ℕ) → is_at (text_cmp path) e.0 ≡ false → key_of (e ∷ es) path ≡ key_of es path
lookup-there e es path is = rw is refl

at_itself : (path : List ℕ) → is_at (text_cmp path) path ≡ true
at_itself path = is_eq-slice_cmp path path ∙ are_bytes path path refl

-- ---- the paths of a key

abbrev has_key : List ℕ → List ℕ × List ℕ → Bool
has_key key e = bytes_eq e.1 key

paths_of-yes : (e : List ℕ × List ℕ) (es : Entries) (key : List ℕ) → has_key key e ≡ true → paths_of (e ∷ es) key ≡ e.0 ∷ paths_of es key
paths_of-yes e es key is = rw is refl

paths_of-no : (e : List ℕ × List ℕ) (es : Entries) (key : List ℕ) → has_key key e ≡ false → paths_of (e ∷ es) key ≡ paths_of es key
paths_of-no e es key is = rw is refl

-- they are paths of the tree
path_of_tree : (es : Entries) (key path : List ℕ) → Contains (paths_of es key) path → Contains (keys_of es) path
path_of_tree [] key path c = c
path_of_tree (e ∷ es) key path c =
    elim (cases_Bool (has_key key e)) [
      | inr isnt ↦ there e.0 path (keys_of es) (path_of_tree es key path (subst (λ w. Contains w path) (paths_of-no e es key isnt) c))
      | inl is ↦ elim (in_cons e.0 path (paths_of es key) (subst (λ w. Contains w path) (paths_of-yes e es key is) c)) [
        | inl first ↦ subst (λ q. Contains (keys_of (e ∷ es)) q) first (here e.0 (keys_of es))
        | inr later ↦ there e.0 path (keys_of es) (path_of_tree es key path later)
      ]
    ]

has_path : (es : Entries) (key path : List ℕ) → IsInOrder es → Contains (paths_of es key) path → key_of es path ≡ Some key
has_path [] key path sorted c = absurd (in_none path c)
has_path (e ∷ es) key path sorted c =
    let in_rest : Contains (paths_of es key) path → key_of (e ∷ es) path ≡ Some key = λ later.
    lookup-there e es path (head_apart e es path sorted (path_of_tree es key path later)) ∙ has_path es key path (sorted_tail text_cmp e.0 (keys_of es) sorted) later in
    elim (cases_Bool (has_key key e)) [
      | inr isnt ↦ in_rest (subst (λ w. Contains w path) (paths_of-no e es key isnt) c)
      | inl is ↦ elim (in_cons e.0 path (paths_of es key) (subst (λ w. Contains w path) (paths_of-yes e es key is) c)) [
        | inl first ↦ lookup-here e es path (subst (λ q. is_at (text_cmp q) e.0 ≡ true) first (at_itself e.0)) ∙ ap Some (bytes_eq-true e.1 key is)
        | inr later ↦ in_rest later
      ]
    ]

gets_path : (es : Entries) (key path : List ℕ) → key_of es path ≡ Some key → Contains (paths_of es key) path
gets_path [] key path found = absurd (none-some key found)
gets_path (e ∷ es) key path found =
    elim (cases_Bool (is_at (text_cmp path) e.0)) [
      | inl at ↦
          let key_is : e.1 ≡ key = same_Some e.1 key (sym (lookup-here e es path at) ∙ found) in
          let path_is : path ≡ e.0 = bytes_eq-true path e.0 (sym (is_eq-slice_cmp path e.0) ∙ at) in
          subst (λ w. Contains w path) (sym (paths_of-yes e es key (are_bytes e.1 key key_is)))
          (subst (λ q. Contains (e.0 ∷ paths_of es key) q) (sym path_is) (here e.0 (paths_of es key)))
      | inr apart ↦
          let rest = gets_path es key path (sym (lookup-there e es path apart) ∙ found) in
          elim (cases_Bool (has_key key e)) [
            | inl is ↦ subst (λ w. Contains w path) (sym (paths_of-yes e es key is)) (there e.0 path (paths_of es key) rest)
            | inr isnt ↦ subst (λ w. Contains w path) (sym (paths_of-no e es key isnt)) rest
          ]
    ]

-- the paths of a key are those that have it
pub paths_of-each : (es : Entries) (key path : List ℕ) → IsInOrder es → Contains (paths_of es key) path ↔ (key_of es path ≡ Some key)
paths_of-each es key path sorted = (has_path es key path sorted, gets_path es key path)

below_paths : (es : Entries) (P : List ℕ → Type 0) (key : List ℕ) → AllByRecursion P (keys_of es) → AllByRecursion P (paths_of es key)
below_paths [] P key all = tt
below_paths (e ∷ es) P key all =
    elim (cases_Bool (has_key key e)) [
      | inl is ↦ subst (AllByRecursion P) (sym (paths_of-yes e es key is)) (all.0, below_paths es P key all.1)
      | inr isnt ↦ subst (AllByRecursion P) (sym (paths_of-no e es key isnt)) (below_paths es P key all.1)
    ]

-- .. in order
pub paths_of-sorted : (es : Entries) (key : List ℕ) → IsInOrder es → IsStrictlySortedBy text_cmp (paths_of es key)
unfolding IsStrictlySortedBy
paths_of-sorted [] key sorted = tt
paths_of-sorted (e ∷ es) key sorted =
    elim (cases_Bool (has_key key e)) [
      | inl is ↦ subst (IsStrictlySortedBy text_cmp) (sym (paths_of-yes e es key is)) (below_paths es (λ q. text_cmp e.0 q ≡ Less) key sorted.0, paths_of-sorted es key sorted.1)
      | inr isnt ↦ subst (IsStrictlySortedBy text_cmp) (sym (paths_of-no e es key isnt)) (paths_of-sorted es key sorted.1)
    ]

-- ---- the keys

abbrev other : List ℕ → List ℕ → Bool
other x y = not (bytes_eq y x)

filter_in : (p : List ℕ → Bool) (k : List ℕ) (ys : List (List ℕ)) → Contains (filter p ys) k → Contains ys k × (p k ≡ true)
filter_in p k [] c = absurd (in_none k c)
filter_in p k (y ∷ ys) c =
    elim (cases_Bool (p y)) [
      | inr isnt ↦ let r = filter_in p k ys (subst (λ w. Contains w k) (filter_no p y ys isnt) c) in (there y k ys r.0, r.1)
      | inl is ↦ elim (in_cons y k (filter p ys) (subst (λ w. Contains w k) (filter_yes p y ys is) c)) [
        | inl first ↦ (subst (λ q. Contains (y ∷ ys) q) first (here y ys), ap p (sym first) ∙ is)
        | inr later ↦ let r = filter_in p k ys later in (there y k ys r.0, r.1)
      ]
    ]

in_filter : (p : List ℕ → Bool) (k : List ℕ) (ys : List (List ℕ)) → Contains ys k → p k ≡ true → Contains (filter p ys) k
in_filter p k [] c is = absurd (in_none k c)
in_filter p k (y ∷ ys) c is = elim (in_cons y k ys c) [
  | inl first ↦ subst (λ w. Contains w k) (sym (filter_yes p y ys (ap p first ∙ is))) (subst (λ q. Contains (y ∷ filter p ys) q) first (here y (filter p ys)))
  | inr later ↦ elim (cases_Bool (p y)) [
    | inl yields ↦ subst (λ w. Contains w k) (sym (filter_yes p y ys yields)) (there y k (filter p ys) (in_filter p k ys later is))
    | inr drops ↦ subst (λ w. Contains w k) (sym (filter_no p y ys drops)) (in_filter p k ys later is)
  ]
]

once_in : (xs : List (List ℕ)) (k : List ℕ) → Contains (each_once xs) k → Contains xs k
once_in [] k c = c
once_in (x ∷ xs) k c = elim (in_cons x k (filter (other x) (each_once xs)) c) [
  | inl first ↦ subst (λ q. Contains (x ∷ xs) q) first (here x xs)
  | inr later ↦ there x k xs (once_in xs k (filter_in (other x) k (each_once xs) later).0)
]

in_once : (xs : List (List ℕ)) (k : List ℕ) → Contains xs k → Contains (each_once xs) k
in_once [] k c = c
in_once (x ∷ xs) k c = elim (in_cons x k xs c) [
  | inl first ↦ subst (λ q. Contains (each_once (x ∷ xs)) q) first (here x (filter (other x) (each_once xs)))
  | inr later ↦ elim (cases_Bool (bytes_eq k x)) [
    | inl is ↦ subst (λ q. Contains (each_once (x ∷ xs)) q) (sym (bytes_eq-true k x is)) (here x (filter (other x) (each_once xs)))
    | inr isnt ↦ there x k (filter (other x) (each_once xs)) (in_filter (other x) k (each_once xs) (in_once xs k later) (ap not isnt))
  ]
]

-- no two are equal
pub each_once-distinct : (xs : List (List ℕ)) → AllPairs (λ x y. x ≢ y) (each_once xs)
each_once-distinct [] = λ i j d below within. absurd (omega (arith, within))
each_once-distinct (x ∷ xs) =
    AllPairs-cons (λ a b. a ≢ b) x (filter (other x) (each_once xs)) (apart (filter (other x) (each_once xs)) (filter_passes (other x) (each_once xs)))
    (AllPairs-filter (λ a b. a ≢ b) (other x) (each_once xs) (each_once-distinct xs)) where
      apart : (ys : List (List ℕ)) → All (λ y. other x y ≡ true) ys → All (λ y. x ≢ y) ys
      apart ys all = λ k d within same. true≢false (sym (all k d within) ∙ ap not (are_bytes _ x (sym same)))

-- a key of the tree is one that a path has
path_in_tree : (es : Entries) (path key : List ℕ) → key_of es path ≡ Some key → Contains (keys_of es) path
path_in_tree es path key found = path_of_tree es key path (gets_path es key path found)

value_path : (es : Entries) (key : List ℕ) → IsInOrder es → Contains (values_of es) key → (path : List ℕ) × (key_of es path ≡ Some key)
value_path [] key sorted c = absurd (in_none key c)
value_path (e ∷ es) key sorted c = elim (in_cons e.1 key (values_of es) c) [
  | inl first ↦ (e.0, lookup-here e es e.0 (at_itself e.0) ∙ ap Some first)
  | inr later ↦
      let rest = value_path es key (sorted_tail text_cmp e.0 (keys_of es) sorted) later in
      (rest.0, lookup-there e es rest.0 (head_apart e es rest.0 sorted (path_in_tree es rest.0 key rest.1)) ∙ rest.1)
]

path_value : (es : Entries) (key path : List ℕ) → key_of es path ≡ Some key → Contains (values_of es) key
path_value [] key path found = absurd (none-some key found)
path_value (e ∷ es) key path found =
    elim (cases_Bool (is_at (text_cmp path) e.0)) [
      | inl at ↦ subst (λ q. Contains (values_of (e ∷ es)) q) (same_Some e.1 key (sym (lookup-here e es path at) ∙ found)) (here e.1 (values_of es))
      | inr apart ↦ there e.1 key (values_of es) (path_value es key path (sym (lookup-there e es path apart) ∙ found))
    ]

pub distinct_keys-each : (es : Entries) (key : List ℕ) → IsInOrder es → Contains (distinct_keys es) key ↔ ((path : List ℕ) × (key_of es path ≡ Some key))
distinct_keys-each es key sorted = (
  λ c. value_path es key sorted (once_in (values_of es) key c),
  λ found. in_once (values_of es) key (path_value es key found.0 found.1),
)

-- ---- the order of a map

abbrev Row : Type 0
Row = Vec ℕ Global × List ℕ

below_seen : (path : Vec ℕ Global) (es : List Row) → AllByRecursion (λ q. path_cmp path q ≡ Less) (keys_of es) → AllByRecursion (λ q. text_cmp path.items q ≡ Less) (keys_of (view_of es))
below_seen path [] all = tt
below_seen path (e ∷ es) all = (all.0, below_seen path es all.1)

pub seen-sorted : (es : List Row) → IsStrictlySortedBy path_cmp (keys_of es) → IsInOrder (view_of es)
unfolding IsStrictlySortedBy
seen-sorted [] sorted = tt
seen-sorted (e ∷ es) sorted = (below_seen e.0 es sorted.0, seen-sorted es sorted.1)

-- ---- what the lists say

pub paths_each : (es : List Row) (t : Entries) (key : List ℕ) (paths : List (List ℕ)) → view_of es ≡ t → paths ≡ paths_of (view_of es) key → IsInOrder (view_of es)
    → (path : List ℕ) → Contains paths path ↔ (key_of t path ≡ Some key)
paths_each es t key paths same is sorted path =
    subst (λ (u : Entries). Contains paths path ↔ (key_of u path ≡ Some key)) same
    (subst (λ (w : List (List ℕ)). Contains w path ↔ (key_of (view_of es) path ≡ Some key)) (sym is) (paths_of-each (view_of es) key path sorted))

pub keys_each : (es : List Row) (t : Entries) (keys : List (List ℕ)) → view_of es ≡ t → keys ≡ distinct_keys (view_of es) → IsInOrder (view_of es)
    → (key : List ℕ) → Contains keys key ↔ ((path : List ℕ) × (key_of t path ≡ Some key))
keys_each es t keys same is sorted key =
    subst (λ (u : Entries). Contains keys key ↔ ((path : List ℕ) × (key_of u path ≡ Some key))) same
    (subst (λ (w : List (List ℕ)). Contains w key ↔ ((path : List ℕ) × (key_of (view_of es) path ≡ Some key))) (sym is) (distinct_keys-each (view_of es) key sorted))

-- ---- a path that is set

by_order : (o : Ordering) (P : Ordering → Type 0) → (o ≡ Less → P Less) → (o ≡ Equal → P Equal) → (o ≡ Greater → P Greater) → P o
by_order Less P f g h = f refl
by_order Equal P f g h = g refl
by_order Greater P f g h = h refl

-- the tree has the key at the path
pub key_of-with_key_same : (t : Entries) (path key : List ℕ) → key_of (with_key t path key) path ≡ Some key
key_of-with_key_same [] path key = lookup-here (path, key) [] path (at_itself path)
key_of-with_key_same (e ∷ es) path key =
    by_order (text_cmp path e.0) (λ o. key_of (match_ordering o ((path, key) ∷ e ∷ es) ((e.0, key) ∷ es) (e ∷ with_key es path key)) path ≡ Some key)
    (λ _. lookup-here (path, key) (e ∷ es) path (at_itself path))
    (λ tied. lookup-here (e.0, key) es path (ap is_eq tied))
    (λ above. lookup-there e (with_key es path key) path (ap is_eq above) ∙ key_of-with_key_same es path key)

apart : (q path : List ℕ) → q ≢ path → is_at (text_cmp q) path ≡ false
apart q path different = elim (cases_Bool (is_at (text_cmp q) path)) [
  | inl tied ↦ absurd (different (bytes_eq-true q path (sym (is_eq-slice_cmp q path) ∙ tied)))
  | inr isnt ↦ isnt
]

-- and at any other path what it had
pub key_of-with_key_other : (t : Entries) (path key q : List ℕ) → q ≢ path → key_of (with_key t path key) q ≡ key_of t q
key_of-with_key_other [] path key q different = lookup-there (path, key) [] q (apart q path different)
key_of-with_key_other (e ∷ es) path key q different =
    by_order (text_cmp path e.0) (λ o. key_of (match_ordering o ((path, key) ∷ e ∷ es) ((e.0, key) ∷ es) (e ∷ with_key es path key)) q ≡ key_of (e ∷ es) q)
    (λ _. lookup-there (path, key) (e ∷ es) q (apart q path different))
    (λ tied.
    let same : path ≡ e.0 = bytes_eq-true path e.0 (sym (is_eq-slice_cmp path e.0) ∙ ap is_eq tied) in
    let far : is_at (text_cmp q) e.0 ≡ false = apart q e.0 (λ is. different (is ∙ sym same)) in
    lookup-there (e.0, key) es q far ∙ sym (lookup-there e es q far))
    (λ _. elim (cases_Bool (is_at (text_cmp q) e.0)) [
      | inl tied ↦ lookup-here e (with_key es path key) q tied ∙ sym (lookup-here e es q tied)
      | inr far ↦ lookup-there e (with_key es path key) q far ∙ key_of-with_key_other es path key q different ∙ sym (lookup-there e es q far)
    ])
