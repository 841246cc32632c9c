-- The rows of a tree at the first path of each key.
use Rattle.std.proofs.Common.{◌≡◌, inl, inr, ℕ, Bool, true, false, not, cond, List, [], ◌∷◌, filter, Option, Some, None, is_some, refl, sym, ap, subst, ◌∙◌, true≢false}
use Rattle.std.specs.BTreeMap.{BTreeMap, is_at}
use Rattle.std.specs.BTreeMap as tree
use Rattle.std.specs.List.{AllByRecursion}
use Rattle.std.specs.List.Sorted.{IsStrictlySortedBy}
use Rattle.std.specs.Map.{lookup, keys_of, values_of}
use Rattle.std.specs.Ordering.{is_gt}
use Rattle.std.specs.Str.{bytes_eq}
use Rattle.std.proofs.lemmas.Map.Keys.{sorted_head, sorted_tail}
use Rattle.std.proofs.lemmas.Map.Text.{is_eq-slice_cmp}
use Rattle.std.proofs.lemmas.Option.{none-some, same_Some}
use Rattle.annex_base.specs.ByteOrder.{text_cmp, Before}
use Rattle.annex_base.proofs.Conditions.{bytes_eq-refl, bytes_eq-other, bytes_eq-true, bytes_eq_tells}
use Rattle.annex_base.proofs.TextOrder.{below, tied, above, compared, before_after, text_cmp-same, Before-other, Before-trans}
use Rattle.annex_key.specs.Tree.{Entries, key_of, each_once, distinct_keys}
use Rattle.annex_key.specs.TreeView.{is_key, IsIndexed, IsFirst, AreFirsts}
use Rattle.annex_key.proofs.IndexLemmas.{Index}

-- each row whose key doesn't stand in one before it
abbrev pub once : Entries → Entries
once [] = []
once (e ∷ es) = e ∷ filter (λ f. not (bytes_eq f.1 e.1)) (once es)

abbrev others : List ℕ → Entries → Entries
others key es = filter (λ f. not (bytes_eq f.1 key)) es

values_others : (key : List ℕ) (es : Entries) → values_of (others key es) ≡ filter (λ k. not (bytes_eq k key)) (values_of es)
values_others key [] = refl
values_others key (e ∷ es) = go (not (bytes_eq e.1 key)) (values_others key es)
  where
    go : (b : Bool) → values_of (others key es) ≡ filter (λ k. not (bytes_eq k key)) (values_of es)
        → values_of (cond b (e ∷ others key es) (others key es)) ≡ cond b (e.1 ∷ filter (λ k. not (bytes_eq k key)) (values_of es)) (filter (λ k. not (bytes_eq k key)) (values_of es))
    go true ih = ap (λ (w : List (List ℕ)). e.1 ∷ w) ih
    go false ih = ih

pub values_once : (es : Entries) → values_of (once es) ≡ each_once (values_of es)
values_once [] = refl
values_once (e ∷ es) = ap (λ (w : List (List ℕ)). e.1 ∷ w) (values_others e.1 (once es) ∙ ap (filter (λ k. not (bytes_eq k e.1))) (values_once es))

-- ---- their order

abbrev IsBelow : List ℕ → Entries → Type 0
IsBelow x es = AllByRecursion (λ q. Before x q) (keys_of es)

below_others : (x key : List ℕ) (es : Entries) → IsBelow x es → IsBelow x (others key es)
below_others x key [] all = tt
below_others x key (e ∷ es) all = go (not (bytes_eq e.1 key)) (below_others x key es all.1)
  where
    go : (b : Bool) → IsBelow x (others key es) → IsBelow x (cond b (e ∷ others key es) (others key es))
    go true ih = (all.0, ih)
    go false ih = ih

below_once : (x : List ℕ) (es : Entries) → IsBelow x es → IsBelow x (once es)
below_once x [] all = tt
below_once x (e ∷ es) all = (all.0, below_others x e.1 (once es) (below_once x es all.1))

abbrev pub IsRising : Entries → Type 0
IsRising es = IsStrictlySortedBy text_cmp (keys_of es)

rising_others : (key : List ℕ) (es : Entries) → IsRising es → IsRising (others key es)
unfolding IsStrictlySortedBy
rising_others key [] sorted = tt
rising_others key (e ∷ es) sorted = go (not (bytes_eq e.1 key)) (rising_others key es sorted.1)
  where
    go : (b : Bool) → IsRising (others key es) → IsRising (cond b (e ∷ others key es) (others key es))
    go true ih = (below_others e.0 key es sorted.0, ih)
    go false ih = ih

pub rising_once : (es : Entries) → IsRising es → IsRising (once es)
unfolding IsStrictlySortedBy
rising_once [] sorted = tt
rising_once (e ∷ es) sorted = (below_others e.0 e.1 (once es) (below_once e.0 es sorted.0), rising_others e.1 (once es) (rising_once es sorted.1))

-- ---- look-ups

abbrev at : List ℕ → Entries → Option (List ℕ)
at q es = lookup (is_at (text_cmp q)) es

at_here : (e : List ℕ × List ℕ) (es : Entries) (q : List ℕ) → bytes_eq q e.0 ≡ true → at q (e ∷ es) ≡ Some e.1
at_here e es q is = ap (λ b. cond b (Some e.1) (at q es)) (is_eq-slice_cmp q e.0 ∙ is)

at_there : (e : List ℕ × List ℕ) (es : Entries) (q : List ℕ) → bytes_eq q e.0 ≡ false → at q (e ∷ es) ≡ at q es
at_there e es q isnt = ap (λ b. cond b (Some e.1) (at q es)) (is_eq-slice_cmp q e.0 ∙ isnt)

-- nothing stands at a path below all
at_below : (q : List ℕ) (es : Entries) → IsBelow q es → at q es ≡ None
at_below q [] all = refl
at_below q (e ∷ es) all = at_there e es q (bytes_eq-other q e.0 (Before-other q e.0 all.0)) ∙ at_below q es all.1

-- what is found stands above what is below all
found_above : (x q k : List ℕ) (es : Entries) → IsBelow x es → at q es ≡ Some k → Before x q
found_above x q k [] all e = absurd (none-some k e)
found_above x q k (f ∷ es) all e = elim (bytes_eq_tells q f.0) [
  | inl same ↦ subst (Before x) (sym same.1) all.0
  | inr other ↦ found_above x q k es all.1 (sym (at_there f es q other.0) ∙ e)
]

-- what is found among the others
at_others : (q k key : List ℕ) (es : Entries) → IsRising es → at q (others key es) ≡ Some k → (at q es ≡ Some k) × (bytes_eq k key ≡ false)
at_others q k key [] sorted e = absurd (none-some k e)
at_others q k key (f ∷ es) sorted e =
    let rest = sorted_tail text_cmp f.0 (keys_of es) sorted in
    let head = sorted_head text_cmp f.0 (keys_of es) sorted in
    go (λ g. at_others q k key es rest g) (bytes_eq f.1 key) refl head e
  where
    go : (at q (others key es) ≡ Some k → (at q es ≡ Some k) × (bytes_eq k key ≡ false)) → (b : Bool) → bytes_eq f.1 key ≡ b → IsBelow f.0 es → at q (cond (not b) (f ∷ others key es) (others key es)) ≡ Some k
        → (at q (f ∷ es) ≡ Some k) × (bytes_eq k key ≡ false)
    go ih true is head g =
        let h = ih g in
        (at_there f es q (bytes_eq-other q f.0 (λ same. Before-other f.0 q (found_above f.0 q k es head h.0) (sym same))) ∙ h.0, h.1)
    go ih false isnt head g = elim (bytes_eq_tells q f.0) [
      | inl same ↦
          let it : f.1 ≡ k = same_Some f.1 k (sym (at_here f (others key es) q same.0) ∙ g) in
          (at_here f es q same.0 ∙ ap Some it, ap (λ w. bytes_eq w key) (sym it) ∙ isnt)
      | inr other ↦ let h = ih (sym (at_there f (others key es) q other.0) ∙ g) in (at_there f es q other.0 ∙ h.0, h.1)
    ]

others_at : (q k key : List ℕ) (es : Entries) → at q es ≡ Some k → bytes_eq k key ≡ false → at q (others key es) ≡ Some k
others_at q k key [] e other = e
others_at q k key (f ∷ es) e other = elim (bytes_eq_tells q f.0) [
  | inl same ↦
      let it : f.1 ≡ k = same_Some f.1 k (sym (at_here f es q same.0) ∙ e) in
      let stays : bytes_eq f.1 key ≡ false = ap (λ w. bytes_eq w key) it ∙ other in
      ap (λ b. at q (cond (not b) (f ∷ others key es) (others key es))) stays ∙ at_here f (others key es) q same.0 ∙ ap Some it
  | inr apart ↦ go (bytes_eq f.1 key) (others_at q k key es (sym (at_there f es q apart.0) ∙ e) other) apart.0
] where
  go : (b : Bool) → at q (others key es) ≡ Some k → bytes_eq q f.0 ≡ false → at q (cond (not b) (f ∷ others key es) (others key es)) ≡ Some k
  go true ih isnt = ih
  go false ih isnt = at_there f (others key es) q isnt ∙ ih

-- ---- the least path of a key

pub record IsLeast (t : Entries) (key path : List ℕ) : Type 0 where
  pub has : at path t ≡ Some key
  pub least : (p : List ℕ) → at p t ≡ Some key → is_gt (text_cmp path p) ≡ false

not_after : (x q : List ℕ) → Before x q → is_gt (text_cmp x q) ≡ false
not_after x q less = ap is_gt less

not_after_itself : (x q : List ℕ) → x ≡ q → is_gt (text_cmp x q) ≡ false
not_after_itself x q same = ap is_gt (text_cmp-same x q same)

after : (x q : List ℕ) → Before x q → is_gt (text_cmp q x) ≡ true
after x q less = ap is_gt (before_after x q less)

pub once_least : (t : Entries) (key path : List ℕ) → IsRising t → at path (once t) ≡ Some key → IsLeast t key path
once_least [] key path sorted e = absurd (none-some key e)
once_least (f ∷ es) key path sorted e =
    let rest = sorted_tail text_cmp f.0 (keys_of es) sorted in
    let head = sorted_head text_cmp f.0 (keys_of es) sorted in
    elim (bytes_eq_tells path f.0) [
      | inl same ↦
          let it : f.1 ≡ key = same_Some f.1 key (sym (at_here f (others f.1 (once es)) path same.0) ∙ e) in
          record {
            has = at_here f es path same.0 ∙ ap Some it;
            least = λ p found. elim (bytes_eq_tells p f.0) [
              | inl here ↦ not_after_itself path p (same.1 ∙ sym here.1)
              | inr there ↦ not_after path p (subst (λ w. Before w p) (sym same.1) (found_above f.0 p key es head (sym (at_there f es p there.0) ∙ found)))
            ];
          }
      | inr apart ↦
          let kept = at_others path key f.1 (once es) (rising_once es rest) (sym (at_there f (others f.1 (once es)) path apart.0) ∙ e) in
          let ih = once_least es key path rest kept.0 in
          record {
            has = at_there f es path apart.0 ∙ ih.has;
            least = λ p found. elim (bytes_eq_tells p f.0) [
              | inl here ↦ absurd (true≢false (sym (bytes_eq-refl key) ∙ ap (λ w. bytes_eq key w) (sym (same_Some f.1 key (sym (at_here f es p here.0) ∙ found))) ∙ kept.1))
              | inr there ↦ ih.least p (sym (at_there f es p there.0) ∙ found)
            ];
          }
    ]

pub least_once : (t : Entries) (key path : List ℕ) → IsRising t → IsLeast t key path → at path (once t) ≡ Some key
least_once [] key path sorted is = is.has
least_once (f ∷ es) key path sorted is =
    let rest = sorted_tail text_cmp f.0 (keys_of es) sorted in
    let head = sorted_head text_cmp f.0 (keys_of es) sorted in
    elim (bytes_eq_tells path f.0) [
      | inl same ↦ at_here f (others f.1 (once es)) path same.0 ∙ (sym (at_here f es path same.0) ∙ is.has)
      | inr apart ↦
          let found = sym (at_there f es path apart.0) ∙ is.has in
          let above_f = found_above f.0 path key es head found in
          let other : bytes_eq key f.1 ≡ false = bytes_eq-other key f.1 (λ same.
          true≢false (sym (after f.0 path above_f) ∙ is.least f.0 (at_here f es f.0 (bytes_eq-refl f.0) ∙ ap Some (sym same)))) in
          let ih = least_once es key path rest (record {
            has = found;
            least = λ p has. is.least p (at_there f es p (bytes_eq-other p f.0 (λ same. Before-other f.0 p (found_above f.0 p key es head has) (sym same))) ∙ has);
          }) in
          at_there f (others f.1 (once es)) path apart.0 ∙ others_at path key f.1 (once es) ih other
    ]

-- ---- lists in order that find the same are one

pub same_rows : (es fs : Entries) → IsRising es → IsRising fs → ((q : List ℕ) → at q es ≡ at q fs) → es ≡ fs
same_rows [] [] first second same = refl
same_rows [] (f ∷ fs) first second same = absurd (none-some f.1 (same f.0 ∙ at_here f fs f.0 (bytes_eq-refl f.0)))
same_rows (e ∷ es) [] first second same = absurd (none-some e.1 (sym (same e.0) ∙ at_here e es e.0 (bytes_eq-refl e.0)))
same_rows (e ∷ es) (f ∷ fs) first second same = elim (compared e.0 f.0) [
  | below less ↦ absurd (none-some e.1 (sym (at_below e.0 (f ∷ fs) (less, below_trans e.0 f.0 fs less (sorted_head text_cmp f.0 (keys_of fs) second))) ∙ sym (same e.0) ∙ at_here e es e.0 (bytes_eq-refl e.0)))
  | above more ↦ absurd (none-some f.1 (sym (at_below f.0 (e ∷ es) (more, below_trans f.0 e.0 es more (sorted_head text_cmp e.0 (keys_of es) first))) ∙ same f.0 ∙ at_here f fs f.0 (bytes_eq-refl f.0)))
  | tied is ↦
      let value : e.1 ≡ f.1 = same_Some e.1 f.1 (sym (at_here e es e.0 (bytes_eq-refl e.0)) ∙ same e.0 ∙ at_here f fs e.0 (ap (bytes_eq e.0) (sym is) ∙ bytes_eq-refl e.0)) in
      let rest = same_rows es fs (sorted_tail text_cmp e.0 (keys_of es) first) (sorted_tail text_cmp f.0 (keys_of fs) second) (λ q. elim (bytes_eq_tells q e.0) [
        | inl here ↦
            at_below q es (subst (λ w. IsBelow w es) (sym here.1) (sorted_head text_cmp e.0 (keys_of es) first))
            ∙ sym (at_below q fs (subst (λ w. IsBelow w fs) (sym (here.1 ∙ is)) (sorted_head text_cmp f.0 (keys_of fs) second)))
        | inr there ↦ sym (at_there e es q there.0) ∙ same q ∙ at_there f fs q (ap (bytes_eq q) (sym is) ∙ there.0)
      ]) in
      ap (λ (p : List ℕ). (p, e.1) ∷ es) is ∙ ap (λ (k : List ℕ). (f.0, k) ∷ es) value ∙ ap (λ (w : Entries). f ∷ w) rest
] where
  below_trans : (x y : List ℕ) (gs : Entries) → Before x y → IsBelow y gs → IsBelow x gs
  below_trans x y [] less all = tt
  below_trans x y (g ∷ gs) less all = (Before-trans x y g.0 less all.0, below_trans x y gs less all.1)

-- ---- the map of first paths

key_is : (o : Option (List ℕ)) (key : List ℕ) → is_key o key ≡ true → o ≡ Some key
key_is None key is = absurd (true≢false (sym is))
key_is (Some k) key is = ap Some (bytes_eq-true k key is)

is_its_key : (o : Option (List ℕ)) (key : List ℕ) → o ≡ Some key → is_key o key ≡ true
is_its_key o key is = ap (λ w. is_key w key) is ∙ bytes_eq-refl key

least_of_first : (t : Entries) (index : Index) (key path : List ℕ) → IsIndexed t index → IsFirst index key path → IsLeast t key path
least_of_first t index key path is first = record {
  has = key_is (key_of t path) key (sym (is.paths key path) ∙ first.among);
  least = λ p found. first.least p (is.paths key p ∙ is_its_key (key_of t p) key found);
}

first_of_least : (t : Entries) (index : Index) (key path : List ℕ) → IsIndexed t index → IsLeast t key path → IsFirst index key path
first_of_least t index key path is least = record {
  among = is.paths key path ∙ is_its_key (key_of t path) key least.has;
  least = λ p has. least.least p (key_is (key_of t p) key (sym (is.paths key p) ∙ has));
}

-- what finds no more, and no less, finds the same
same_found : (o p : Option (List ℕ)) → ((k : List ℕ) → o ≡ Some k → p ≡ Some k) → ((k : List ℕ) → p ≡ Some k → is_some o ≡ true) → o ≡ p
same_found (Some k) p more less = sym (more k refl)
same_found None None more less = refl
same_found None (Some k) more less = absurd (true≢false (sym (less k refl)))

pub first_values : (t : Entries) (index : Index) (firsts : BTreeMap (List ℕ) (List ℕ)) → IsIndexed t index → AreFirsts index firsts → tree.IsOrdered text_cmp firsts → values_of firsts.entries ≡ distinct_keys t
first_values t index firsts is are ordered =
    ap values_of (same_rows firsts.entries (once t) ordered (rising_once t is.sorted) (λ q. same_found (at q firsts.entries) (at q (once t))
    (λ k e. least_once t k q is.sorted (least_of_first t index k q is (are.sound q k e)))
    (λ k e. are.all q k (first_of_least t index k q is (once_least t k q is.sorted e)))))
    ∙ values_once t
