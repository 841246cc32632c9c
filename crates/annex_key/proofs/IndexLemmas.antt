-- What adding a path to a key's paths, and taking one from them, does to the paths of each key.
use Rattle.std.proofs.Common.{◌≡◌, ℕ, Bool, true, false, not, ◌&&◌, ◌||◌, cond, List, Option, Some, None, is_some, refl, sym, ap, subst, ◌∙◌}
use Rattle.std.specs.BTreeMap as tree
use Rattle.std.specs.BTreeSet as sorted
use Rattle.std.specs.BTreeMap.{BTreeMap, is_at}
use Rattle.std.specs.BTreeSet.{BTreeSet}
use Rattle.std.specs.Str.{bytes_eq}
use Rattle.std.proofs.lemmas.List.{nil_from_length}
use Rattle.std.proofs.lemmas.Map.Text.{is_eq-slice_cmp}
use Rattle.annex_base.specs.ByteOrder.{text_cmp}
use Rattle.annex_base.proofs.Conditions.{bytes_eq-true}
use Rattle.annex_key.specs.TreeView.{has, has_path}

abbrev pub Index : Type 0
Index = BTreeMap (List ℕ) (BTreeSet (List ℕ))

-- a map after its value at a key is set, or taken
abbrev pub Sets : Index → Index → List ℕ → Option (BTreeSet (List ℕ)) → Type 0
Sets m n key now = (q : List ℕ) → tree.get text_cmp n q ≡ cond (is_at (text_cmp key) q) now (tree.get text_cmp m q)

-- the same after a step that changed nothing
pub sets_after : (m l n : Index) (key : List ℕ) (now : Option (BTreeSet (List ℕ))) → l ≡ m → Sets l n key now → Sets m n key now
sets_after m l n key now same sets = subst (λ (x : Index). Sets x n key now) same sets

cond-has : (b : Bool) (x y : Option (BTreeSet (List ℕ))) (p : List ℕ) → has (cond b x y) p ≡ cond b (has x p) (has y p)
cond-has true x y p = refl
cond-has false x y p = refl

set_has : (m n : Index) (key : List ℕ) (now : Option (BTreeSet (List ℕ))) → Sets m n key now → (k p : List ℕ) → has_path n k p ≡ cond (bytes_eq key k) (has now p) (has_path m k p)
set_has m n key now sets k p =
    ap (λ o. has o p) (sets k) ∙ cond-has (is_at (text_cmp key) k) now (tree.get text_cmp m k) p
    ∙ ap (λ b. cond b (has now p) (has_path m k p)) (is_eq-slice_cmp key k)

added_at : (b c : Bool) (x y z : Bool) → (b ≡ true → x ≡ (c || y)) → (b ≡ true → y ≡ z) → cond b x z ≡ ((b && c) || z)
added_at true c x y z is same = is refl ∙ ap (λ w. c || w) (same refl)
added_at false c x y z is same = refl

taken_at : (b c : Bool) (x y z : Bool) → (b ≡ true → x ≡ (not c && y)) → (b ≡ true → y ≡ z) → cond b x z ≡ (not (b && c) && z)
taken_at true c x y z is same = is refl ∙ ap (λ w. not c && w) (same refl)
taken_at false c x y z is same = refl

same_key : (m : Index) (key k p : List ℕ) → bytes_eq key k ≡ true → has_path m key p ≡ has_path m k p
same_key m key k p is = ap (λ q. has_path m q p) (bytes_eq-true key k is)

-- the key's paths have one more
pub index_added : (m n : Index) (key path : List ℕ) (now : Option (BTreeSet (List ℕ))) → Sets m n key now → ((p : List ℕ) → has now p ≡ (bytes_eq path p || has_path m key p))
    → (k p : List ℕ) → has_path n k p ≡ ((bytes_eq key k && bytes_eq path p) || has_path m k p)
index_added m n key path now sets more k p =
    set_has m n key now sets k p ∙ added_at (bytes_eq key k) (bytes_eq path p) (has now p) (has_path m key p) (has_path m k p) (λ _. more p) (same_key m key k p)

-- and one less
pub index_taken : (m n : Index) (key path : List ℕ) (now : Option (BTreeSet (List ℕ))) → Sets m n key now → ((p : List ℕ) → has now p ≡ (not (bytes_eq path p) && has_path m key p))
    → (k p : List ℕ) → has_path n k p ≡ (not (bytes_eq key k && bytes_eq path p) && has_path m k p)
index_taken m n key path now sets less k p =
    set_has m n key now sets k p ∙ taken_at (bytes_eq key k) (bytes_eq path p) (has now p) (has_path m key p) (has_path m k p) (λ _. less p) (same_key m key k p)

cond_or : (b x : Bool) → cond b true x ≡ (b || x)
cond_or true x = refl
cond_or false x = refl

cond_and : (b x : Bool) → cond b false x ≡ (not b && x)
cond_and true x = refl
cond_and false x = refl

-- a set after a path is added, or taken
pub set_more : (s t : BTreeSet (List ℕ)) (path : List ℕ) (o : Option (BTreeSet (List ℕ))) → o ≡ Some s → ((q : List ℕ) → sorted.contains text_cmp t q ≡ cond (is_at (text_cmp path) q) true (sorted.contains text_cmp s q))
    → (p : List ℕ) → has (Some t) p ≡ (bytes_eq path p || has o p)
set_more s t path o is updates p =
    updates p ∙ ap (λ b. cond b true (sorted.contains text_cmp s p)) (is_eq-slice_cmp path p) ∙ cond_or (bytes_eq path p) (sorted.contains text_cmp s p)
    ∙ ap (λ w. bytes_eq path p || has w p) (sym is)

pub set_less : (s t : BTreeSet (List ℕ)) (path : List ℕ) (o : Option (BTreeSet (List ℕ))) → o ≡ Some s → ((q : List ℕ) → sorted.contains text_cmp t q ≡ cond (is_at (text_cmp path) q) false (sorted.contains text_cmp s q))
    → (p : List ℕ) → has (Some t) p ≡ (not (bytes_eq path p) && has o p)
set_less s t path o is updates p =
    updates p ∙ ap (λ b. cond b false (sorted.contains text_cmp s p)) (is_eq-slice_cmp path p) ∙ cond_and (bytes_eq path p) (sorted.contains text_cmp s p)
    ∙ ap (λ w. not (bytes_eq path p) && has w p) (sym is)

-- the first path of a key
pub set_one : (s t : BTreeSet (List ℕ)) (path : List ℕ) (o : Option (BTreeSet (List ℕ))) → o ≡ None → sorted.IsEmpty s → ((q : List ℕ) → sorted.contains text_cmp t q ≡ cond (is_at (text_cmp path) q) true (sorted.contains text_cmp s q))
    → (p : List ℕ) → has (Some t) p ≡ (bytes_eq path p || has o p)
set_one s t path o none empty updates p =
    updates p ∙ ap (λ b. cond b true (sorted.contains text_cmp s p)) (is_eq-slice_cmp path p) ∙ cond_or (bytes_eq path p) (sorted.contains text_cmp s p)
    ∙ ap (λ w. bytes_eq path p || w) (ap (λ (ks : List (List ℕ)). sorted.contains text_cmp (record { keys = ks }) p) empty ∙ ap (λ w. has w p) (sym none))

-- a set that is written back as it was
pub index_same : (m n : Index) (key : List ℕ) (s t : BTreeSet (List ℕ)) → Sets m n key (Some t) → tree.get text_cmp m key ≡ Some s → t.keys ≡ s.keys → (k p : List ℕ) → has_path n k p ≡ has_path m k p
index_same m n key s t sets is same k p =
    set_has m n key (Some t) sets k p ∙ same_at (bytes_eq key k) (has (Some t) p) (has_path m key p) (has_path m k p)
    (ap (λ (ks : List (List ℕ)). sorted.contains text_cmp (record { keys = ks }) p) same ∙ ap (λ w. has w p) (sym is)) (same_key m key k p)
  where
    same_at : (b x y z : Bool) → x ≡ y → (b ≡ true → y ≡ z) → cond b x z ≡ z
    same_at true x y z is same = is ∙ same refl
    same_at false x y z is same = refl

-- what `get_mut` says once its set is written
pub written : (m n : Index) (key : List ℕ) (s t : BTreeSet (List ℕ)) → tree.WritesThrough text_cmp (text_cmp key) m t n → tree.get text_cmp m key ≡ Some s → Sets m n key (Some t)
written m n key s t writes is = (writes.3 (ap is_some is)).0

-- a key whose last path was taken goes
pub sets_none : (m l n : Index) (key : List ℕ) (now : Option (BTreeSet (List ℕ))) → Sets m l key now → Sets l n key None → Sets m n key None
sets_none m l n key now first second q = second q ∙ ap (λ o. cond (is_at (text_cmp key) q) None o) (first q) ∙ twice (is_at (text_cmp key) q) now (tree.get text_cmp m q)
  where
    twice : (b : Bool) (x y : Option (BTreeSet (List ℕ))) → cond b None (cond b x y) ≡ cond b None y
    twice true x y = refl
    twice false x y = refl

pub has_none : (t : BTreeSet (List ℕ)) (p : List ℕ) → sorted.btree_set_len t ≡ 0 → has None p ≡ has (Some t) p
has_none t p none = sym (ap (λ (ks : List (List ℕ)). sorted.contains text_cmp (record { keys = ks }) p) (nil_from_length t.keys none))
