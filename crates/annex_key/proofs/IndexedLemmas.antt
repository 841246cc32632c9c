-- An index says of a tree what the tree says, also after a path is set.
use Rattle.std.proofs.Common.{◌≡◌, inl, inr, ℕ, Bool, true, false, not, ◌&&◌, ◌||◌, List, Option, Some, None, refl, sym, ap, subst, ◌∙◌, true≢false}
use Rattle.std.specs.BTreeMap.{is_at}
use Rattle.std.specs.BTreeSet.{BTreeSet}
use Rattle.std.specs.List.{list_any}
use Rattle.std.specs.List.Sorted.{IsStrictlySortedBy}
use Rattle.std.specs.Map.{keys_of}
use Rattle.std.specs.Str.{bytes_eq}
use Rattle.std.proofs.lemmas.Cmp.{nat_list_cmp_total}
use Rattle.std.proofs.lemmas.Map.Lookups.{btree_set_from_contains, exact_bytes}
use Rattle.std.proofs.lemmas.Map.Views.{btree_set_contains_iff}
use Rattle.std.proofs.Math.Bool.{and-false, and-true, or-false, or_self}
use Rattle.annex_base.specs.ByteOrder.{text_cmp}
use Rattle.annex_base.proofs.Conditions.{bytes_eq-other, bytes_eq-refl, bytes_eq-true, bytes_eq_tells, same_test}
use Rattle.annex_key.specs.Tree.{Entries, with_key, key_of, paths_of}
use Rattle.annex_key.specs.TreeView.{has_path, is_key, was_left, IsIndexed}
use Rattle.annex_key.proofs.IndexLemmas.{Index}
use Rattle.annex_key.proofs.TreeLaws.{key_of-with_key_same, key_of-with_key_other, paths_of-each, paths_of-sorted}

-- ---- a path that got a key, and left its old one

-- at the path itself
at_path : (o : Option (List ℕ)) (now key : List ℕ) → bytes_eq now key ≡ (not (was_left o now key) && (bytes_eq now key || is_key o key))
at_path None now key = sym (or-false (bytes_eq now key))
at_path (Some old) now key = elim (bytes_eq_tells old now) [
  | inl same ↦ rw (same.0, same.1) (sym (or_self (bytes_eq now key)))
  | inr other ↦ elim (bytes_eq_tells old key) [
    | inl is ↦ rw (other.0, is.0, bytes_eq-other now key (λ e. other.1 (is.1 ∙ sym e))) refl
    | inr isnt ↦ rw (other.0, isnt.0) (sym (or-false (bytes_eq now key)))
  ]
]

abbrev stays : Option (List ℕ) → List ℕ → List ℕ → Bool → Bool → Bool
stays o now key here had = not (was_left o now key && here) && ((bytes_eq now key && here) || had)

stays_here : (o : Option (List ℕ)) (now key : List ℕ) (had : Bool) → had ≡ is_key o key → bytes_eq now key ≡ stays o now key true had
stays_here o now key had is = at_path o now key ∙ rw (is, and-true (was_left o now key), and-true (bytes_eq now key)) refl

stays_there : (o : Option (List ℕ)) (now key : List ℕ) (had : Bool) → had ≡ stays o now key false had
stays_there o now key had = rw (and-false (was_left o now key), and-false (bytes_eq now key)) refl

-- after the path is set, a path has the key if it stays, or is that path and key
set_gives : (t : Entries) (path now key p : List ℕ)
    → is_key (key_of (with_key t path now) p) key ≡ stays (key_of t path) now key (bytes_eq path p) (is_key (key_of t p) key)
set_gives t path now key p = elim (bytes_eq_tells path p) [
  | inl same ↦
      let P : List ℕ → Type 0 = λ q. is_key (key_of (with_key t path now) q) key ≡ stays (key_of t path) now key true (is_key (key_of t q) key) in
      rw same.0 (subst P same.1 (ap (λ o. is_key o key) (key_of-with_key_same t path now) ∙ stays_here (key_of t path) now key (is_key (key_of t path) key) refl))
  | inr other ↦
      rw other.0 (ap (λ o. is_key o key) (key_of-with_key_other t path now p (λ e. other.1 (sym e))) ∙ stays_there (key_of t path) now key (is_key (key_of t p) key))
]

pub index_set : (t u : Entries) (m l n : Index) (path now : List ℕ) (old : Option (List ℕ)) → IsIndexed t m → old ≡ key_of t path → u ≡ with_key t path now → IsStrictlySortedBy text_cmp (keys_of u)
    → ((k p : List ℕ) → has_path l k p ≡ ((bytes_eq now k && bytes_eq path p) || has_path m k p))
    → ((k p : List ℕ) → has_path n k p ≡ (not (was_left old now k && bytes_eq path p) && has_path l k p))
    → IsIndexed u n
index_set t u m l n path now old was is_old is sorted added left = record {
  sorted = sorted;
  paths = λ k p.
      left k p ∙ ap (λ b. not (was_left old now k && bytes_eq path p) && b) (added k p ∙ ap (λ b. (bytes_eq now k && bytes_eq path p) || b) (was.paths k p))
      ∙ ap (λ o. stays o now k (bytes_eq path p) (is_key (key_of t p) k)) is_old
      ∙ sym (set_gives t path now k p) ∙ ap (λ (w : Entries). is_key (key_of w p) k) (sym is);
}

-- ---- a path that was taken back

undone : (t : Entries) (path now k p : List ℕ) → key_of t path ≡ None → (not (bytes_eq now k && bytes_eq path p) && ((bytes_eq now k && bytes_eq path p) || is_key (key_of t p) k)) ≡ is_key (key_of t p) k
undone t path now k p none = elim (bytes_eq_tells path p) [
  | inl same ↦
      let gone : is_key (key_of t p) k ≡ false = ap (λ q. is_key (key_of t q) k) (sym same.1) ∙ ap (λ o. is_key o k) none in
      rw (gone, same.0, and-true (bytes_eq now k)) (never (bytes_eq now k))
  | inr other ↦ rw (other.0, and-false (bytes_eq now k)) refl
] where
  never : (b : Bool) → (not b && (b || false)) ≡ false
  never true = refl
  never false = refl

pub index_back : (t u : Entries) (m l n : Index) (path now : List ℕ) → IsIndexed t m → key_of t path ≡ None → u ≡ t
    → ((k p : List ℕ) → has_path l k p ≡ ((bytes_eq now k && bytes_eq path p) || has_path m k p))
    → ((k p : List ℕ) → has_path n k p ≡ (not (bytes_eq now k && bytes_eq path p) && has_path l k p))
    → IsIndexed u n
index_back t u m l n path now was none same added taken = subst (λ (w : Entries). IsIndexed w n) (sym same) (record {
  sorted = was.sorted;
  paths = λ k p.
      taken k p ∙ ap (λ b. not (bytes_eq now k && bytes_eq path p) && b) (added k p ∙ ap (λ b. (bytes_eq now k && bytes_eq path p) || b) (was.paths k p))
      ∙ undone t path now k p none;
})

-- ---- the paths of a key

paths_has : (t : Entries) (key p : List ℕ) → IsStrictlySortedBy text_cmp (keys_of t) → list_any (is_at (text_cmp p)) (paths_of t key) ≡ is_key (key_of t p) key
paths_has t key p sorted =
    let each = paths_of-each t key p sorted in
    let set : BTreeSet (List ℕ) = record { keys = paths_of t key } in
    let iff = btree_set_contains_iff nat_list_cmp_total exact_bytes set p in
    same_test (list_any (is_at (text_cmp p)) (paths_of t key)) (is_key (key_of t p) key)
    (λ among. ap (λ o. is_key o key) (each.0 (iff.0 among)) ∙ bytes_eq-refl key)
    (λ is. iff.1 (each.1 (is_some_key (key_of t p) is)))
  where
    is_some_key : (o : Option (List ℕ)) → is_key o key ≡ true → o ≡ Some key
    is_some_key None is = absurd (true≢false (sym is))
    is_some_key (Some k) is = ap Some (bytes_eq-true k key is)

pub index_paths : (t : Entries) (m : Index) (key : List ℕ) (xs : List (List ℕ)) → IsIndexed t m → ((p : List ℕ) → has_path m key p ≡ list_any (is_at (text_cmp p)) xs) → IsStrictlySortedBy text_cmp xs → xs ≡ paths_of t key
index_paths t m key xs is has sorted =
    btree_set_from_contains nat_list_cmp_total (record { keys = xs }) (record { keys = paths_of t key }) sorted (paths_of-sorted t key is.sorted)
    (λ p. sym (has p) ∙ is.paths key p ∙ sym (paths_has t key p is.sorted)) exact_bytes

-- ---- equal keys and paths

abbrev pub Added : Index → Index → List ℕ → List ℕ → Type 0
Added m l key path = (k p : List ℕ) → has_path l k p ≡ ((bytes_eq key k && bytes_eq path p) || has_path m k p)

abbrev pub Taken : Index → Index → List ℕ → List ℕ → Type 0
Taken l n key path = (k p : List ℕ) → has_path n k p ≡ (not (bytes_eq key k && bytes_eq path p) && has_path l k p)

abbrev pub Left : Index → Index → Option (List ℕ) → List ℕ → List ℕ → Type 0
Left l n old now path = (k p : List ℕ) → has_path n k p ≡ (not (was_left old now k && bytes_eq path p) && has_path l k p)

pub added_same : (m l : Index) (key now other path : List ℕ) → key ≡ now → other ≡ path → Added m l key other → Added m l now path
added_same m l key now other path same_key same_path added = subst (λ (k : List ℕ). Added m l k path) same_key (subst (λ (p : List ℕ). Added m l key p) same_path added)

pub taken_same : (l n : Index) (key other path : List ℕ) → other ≡ path → Taken l n key other → Taken l n key path
taken_same l n key other path same taken = subst (λ (p : List ℕ). Taken l n key p) same taken

pub left_same : (l n : Index) (old : Option (List ℕ)) (now other path : List ℕ) → other ≡ path → Left l n old now other → Left l n old now path
left_same l n old now other path same left = subst (λ (p : List ℕ). Left l n old now p) same left

pub with_same : (t u : Entries) (p path k key : List ℕ) → p ≡ path → k ≡ key → u ≡ with_key t p k → u ≡ with_key t path key
with_same t u p path k key same_path same_key is = is ∙ ap (λ (w : List ℕ). with_key t w k) same_path ∙ ap (λ (w : List ℕ). with_key t path w) same_key
