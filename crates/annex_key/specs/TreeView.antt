-- What the two maps of a tree say: its entries by path, and the paths of each key; for private contracts.
use Rattle.std.specs.Prelude.{◌≡◌, ℕ, Bool, true, false, cond, not, ◌&&◌, List, map, Option, Some, None, is_some}
use Rattle.std.specs.BTreeMap.{is_at}
use Rattle.std.specs.Ordering.{is_gt}
use Rattle.std.specs.List.Sorted.{IsStrictlySortedBy}
use Rattle.std.specs.Map.{keys_of}
use Rattle.std.specs.Str.{bytes_eq}
use Rattle.std.specs.BTreeMap as tree
use Rattle.std.specs.BTreeSet as sorted
use Rattle.std.specs.BTreeMap.{BTreeMap}
use Rattle.std.specs.BTreeSet.{BTreeSet}
use Rattle.std.specs.declared.vec.Vec.{Vec}
use Rattle.std.specs.declared.alloc.Global.{Global}
use Rattle.annex_base.specs.ByteOrder.{text_cmp}
use Rattle.annex_key.specs.Tree.{Entries, key_of}

-- the entries without where their paths lie in memory
abbrev pub view_of : List (Vec ℕ Global × List ℕ) → List (List ℕ × List ℕ)
view_of entries = map (λ e. (e.0.items, e.1)) entries

-- whether the path is among those that were found
abbrev pub has : Option (BTreeSet (List ℕ)) → List ℕ → Bool
has None path = false
has (Some paths) path = sorted.contains text_cmp paths path

-- whether the key's paths have this one
abbrev pub has_path : BTreeMap (List ℕ) (BTreeSet (List ℕ)) → List ℕ → List ℕ → Bool
has_path index key path = has (tree.get text_cmp index key) path

abbrev pub is_key : Option (List ℕ) → List ℕ → Bool
is_key None key = false
is_key (Some k) key = bytes_eq k key

-- a tree in order of its paths, and an index that has each path of each key, and no other
pub record IsIndexed (tree : Entries) (index : BTreeMap (List ℕ) (BTreeSet (List ℕ))) : Type 0 where
  pub sorted : IsStrictlySortedBy text_cmp (keys_of tree)
  pub paths : (key path : List ℕ) → has_path index key path ≡ is_key (key_of tree path) key

-- whether this key was the path's, and is no more
abbrev pub was_left : Option (List ℕ) → List ℕ → List ℕ → Bool
was_left None now key = false
was_left (Some old) now key = not (bytes_eq old now) && bytes_eq old key

-- the path is the first of the set, which has none where there is no first one
abbrev pub IsFirstOf : BTreeSet (List ℕ) → Option (List ℕ) → Type 0
IsFirstOf paths None = (p : List ℕ) → sorted.contains text_cmp paths p ≡ false
IsFirstOf paths (Some path) = (sorted.contains text_cmp paths path ≡ true) × sorted.IsLowerBound text_cmp paths path

-- a map of first paths, with that of one key more
abbrev pub with_first : Option (List ℕ) → List ℕ → BTreeMap (List ℕ) (List ℕ) → List ℕ → Option (List ℕ)
with_first None key firsts q = tree.get text_cmp firsts q
with_first (Some path) key firsts q = cond (is_at (text_cmp path) q) (Some key) (tree.get text_cmp firsts q)

pub record AddsFirst (paths : BTreeSet (List ℕ)) (key : List ℕ) (old new : BTreeMap (List ℕ) (List ℕ)) : Type 0 where
  pub path : Option (List ℕ)
  pub first : IsFirstOf paths path
  pub sets : (q : List ℕ) → tree.get text_cmp new q ≡ with_first path key old q

-- the path is the first of the key's
pub record IsFirst (index : BTreeMap (List ℕ) (BTreeSet (List ℕ))) (key path : List ℕ) : Type 0 where
  pub among : has_path index key path ≡ true
  pub least : (p : List ℕ) → has_path index key p ≡ true → is_gt (text_cmp path p) ≡ false

-- the map has each key at its first path
pub record AreFirsts (index : BTreeMap (List ℕ) (BTreeSet (List ℕ))) (firsts : BTreeMap (List ℕ) (List ℕ)) : Type 0 where
  pub sound : (path key : List ℕ) → tree.get text_cmp firsts path ≡ Some key → IsFirst index key path
  pub all : (path key : List ℕ) → IsFirst index key path → is_some (tree.get text_cmp firsts path) ≡ true
