-- The first path of each key, as a map from those paths to their keys.
use Rattle.std.proofs.Common.{◌≡◌, ◌⊎◌, inl, inr, ℕ, true, false, cond, List, [], ◌∷◌, Option, Some, None, is_some, refl, sym, ap, subst, ◌∙◌, true≢false}
use Rattle.std.specs.BTreeMap as tree
use Rattle.std.specs.BTreeSet as sorted
use Rattle.std.specs.BTreeMap.{BTreeMap, is_at}
use Rattle.std.specs.BTreeSet.{BTreeSet}
use Rattle.std.specs.Ordering.{is_gt}
use Rattle.std.specs.Str.{bytes_eq}
use Rattle.std.proofs.lemmas.Cmp.{nat_list_cmp_total}
use Rattle.std.proofs.lemmas.Map.Lookups.{exact_bytes}
use Rattle.std.proofs.lemmas.Map.Text.{is_eq-slice_cmp}
use Rattle.std.proofs.lemmas.Map.Views.{btree_map_get_iff}
use Rattle.std.proofs.lemmas.Option.{same_Some}
use Rattle.annex_base.specs.ByteOrder.{text_cmp}
use Rattle.annex_base.specs.Lists.{Member}
use Rattle.annex_base.proofs.Conditions.{bytes_eq-refl, bytes_eq_tells}
use Rattle.annex_base.proofs.Lists.{Contains-from_Member, Member-from_Contains}
use Rattle.annex_base.proofs.TextOrder.{below, tied, above, compared, before_after}
use Rattle.annex_key.specs.TreeView.{has, has_path, with_first, AddsFirst, IsFirst, IsFirstOf, AreFirsts}
use Rattle.annex_key.proofs.IndexLemmas.{Index}

abbrev pub Firsts : Type 0
Firsts = BTreeMap (List ℕ) (List ℕ)

abbrev pub Sets : Type 0
Sets = List (List ℕ × BTreeSet (List ℕ))

-- the keys that were met stand at their first paths; the rest is to come
pub record FirstsSoFar (index : Index) (firsts : Firsts) (rest : Sets) : Type 0 where
  pub among : (e : List ℕ × BTreeSet (List ℕ)) → Member e rest → Member e index.entries
  pub sound : (path key : List ℕ) → tree.get text_cmp firsts path ≡ Some key → IsFirst index key path
  pub all : (e : List ℕ × BTreeSet (List ℕ)) (path : List ℕ) → Member e index.entries → IsFirst index e.0 path → Member e rest ⊎ (is_some (tree.get text_cmp firsts path) ≡ true)

-- two first paths of one key are one
one_first : (index : Index) (key p q : List ℕ) → IsFirst index key p → IsFirst index key q → p ≡ q
one_first index key p q first second = elim (compared p q) [
  | below less ↦ absurd (true≢false (sym (ap is_gt (before_after p q less)) ∙ second.least p first.among))
  | tied same ↦ same
  | above more ↦ absurd (true≢false (sym (ap is_gt (before_after q p more)) ∙ first.least q second.among))
]

-- what an entry's set has is what the index has at its key
entry_has : (index : Index) (key : List ℕ) (s : BTreeSet (List ℕ)) → tree.IsOrdered text_cmp index → Member (key, s) index.entries → (p : List ℕ) → has_path index key p ≡ sorted.contains text_cmp s p
entry_has index key s ordered among p =
    ap (λ o. has o p) ((btree_map_get_iff nat_list_cmp_total exact_bytes index ordered key s).1 (Contains-from_Member index.entries (key, s) among))

first_is : (index : Index) (key path : List ℕ) (s : BTreeSet (List ℕ)) → tree.IsOrdered text_cmp index → Member (key, s) index.entries → IsFirstOf s (Some path) → IsFirst index key path
first_is index key path s ordered among first = record {
  among = entry_has index key s ordered among path ∙ first.0;
  least = λ p has. first.1 p (sym (entry_has index key s ordered among p) ∙ has);
}

none_isnt : (index : Index) (key path : List ℕ) (s : BTreeSet (List ℕ)) → tree.IsOrdered text_cmp index → Member (key, s) index.entries → IsFirstOf s None → IsFirst index key path → ⊥
none_isnt index key path s ordered among none first = true≢false (sym first.among ∙ entry_has index key s ordered among path ∙ none path)

-- ---- a step

-- what the map says after a first path is added
with_here : (path key q : List ℕ) (old : Firsts) → path ≡ q → with_first (Some path) key old q ≡ Some key
with_here path key q old same = ap (λ b. cond b (Some key) (tree.get text_cmp old q)) (is_eq-slice_cmp path q ∙ ap (bytes_eq path) (sym same) ∙ bytes_eq-refl path)

with_there : (path key q : List ℕ) (old : Firsts) → bytes_eq path q ≡ false → with_first (Some path) key old q ≡ tree.get text_cmp old q
with_there path key q old other = ap (λ b. cond b (Some key) (tree.get text_cmp old q)) (is_eq-slice_cmp path q ∙ other)

sound_step : (index : Index) (old : Firsts) (rest : Sets) (key : List ℕ) (s : BTreeSet (List ℕ)) (o : Option (List ℕ)) → FirstsSoFar index old rest → tree.IsOrdered text_cmp index → Member (key, s) index.entries → IsFirstOf s o
    → (q k : List ℕ) → with_first o key old q ≡ Some k → IsFirst index k q
sound_step index old rest key s None so ordered among first q k e = so.sound q k e
sound_step index old rest key s (Some path) so ordered among first q k e = elim (bytes_eq_tells path q) [
  | inl same ↦
      let it : key ≡ k = same_Some key k (sym (with_here path key q old same.1) ∙ e) in
      subst (λ (w : List ℕ). IsFirst index w q) it (subst (IsFirst index key) same.1 (first_is index key path s ordered among first))
  | inr other ↦ so.sound q k (sym (with_there path key q old other.0) ∙ e)
]

stays_some : (o : Option (List ℕ)) (key q : List ℕ) (old : Firsts) → is_some (tree.get text_cmp old q) ≡ true → is_some (with_first o key old q) ≡ true
stays_some None key q old some = some
stays_some (Some path) key q old some = elim (bytes_eq_tells path q) [
  | inl same ↦ ap is_some (with_here path key q old same.1)
  | inr other ↦ ap is_some (with_there path key q old other.0) ∙ some
]

added_some : (index : Index) (old : Firsts) (key q : List ℕ) (s : BTreeSet (List ℕ)) (o : Option (List ℕ)) → tree.IsOrdered text_cmp index → Member (key, s) index.entries → IsFirstOf s o → IsFirst index key q → is_some (with_first o key old q) ≡ true
added_some index old key q s None ordered among first it = absurd (none_isnt index key q s ordered among first it)
added_some index old key q s (Some path) ordered among first it =
    ap is_some (with_here path key q old (one_first index key path q (first_is index key path s ordered among first) it))

pub firsts_more : (index : Index) (old new : Firsts) (before after : Sets) (key : List ℕ) (s : BTreeSet (List ℕ)) → tree.IsOrdered text_cmp index → FirstsSoFar index old before → before ≡ (key, s) ∷ after → AddsFirst s key old new
    → FirstsSoFar index new after
firsts_more index old new before after key s ordered was is adds =
    let so = subst (λ (w : Sets). FirstsSoFar index old w) is was in
    let among : Member (key, s) index.entries = so.among (key, s) (inl refl) in
    record {
      among = λ e later. so.among e (inr later);
      sound = λ q k e. sound_step index old ((key, s) ∷ after) key s adds.path so ordered among adds.first q k (sym (adds.sets q) ∙ e);
      all = λ e q within first. elim (so.all e q within first) [
        | inl place ↦ elim place [
          | inl same ↦ inr (ap is_some (adds.sets q) ∙ added_some index old key q s adds.path ordered among adds.first (subst (λ (w : List ℕ × BTreeSet (List ℕ)). IsFirst index w.0 q) same first))
          | inr later ↦ inl later
        ]
        | inr some ↦ inr (ap is_some (adds.sets q) ∙ stays_some adds.path key q old some)
      ];
    }

pub firsts_all : (index : Index) (firsts : Firsts) (rest : Sets) → tree.IsOrdered text_cmp index → FirstsSoFar index firsts rest → rest ≡ [] → AreFirsts index firsts
firsts_all index firsts rest ordered so none = record {
  sound = so.sound;
  all = λ q k first. found q k first (tree.get text_cmp index k) refl;
} where
  found : (q k : List ℕ) → IsFirst index k q → (o : Option (BTreeSet (List ℕ))) → tree.get text_cmp index k ≡ o → is_some (tree.get text_cmp firsts q) ≡ true
  found q k first None is = absurd (true≢false (sym first.among ∙ ap (λ w. has w q) is))
  found q k first (Some s) is =
      let among = Member-from_Contains index.entries (k, s) ((btree_map_get_iff nat_list_cmp_total exact_bytes index ordered k s).0 is) in
      elim (so.all (k, s) q among first) [
        | inl place ↦ absurd (subst (Member (k, s)) none place)
        | inr some ↦ some
      ]

-- equal paths and keys are added alike
pub adds_same : (old new : Firsts) (p path k key : List ℕ) → p ≡ path → k ≡ key → ((q : List ℕ) → tree.get text_cmp new q ≡ cond (is_at (text_cmp p) q) (Some k) (tree.get text_cmp old q))
    → (q : List ℕ) → tree.get text_cmp new q ≡ with_first (Some path) key old q
adds_same old new p path k key same_path same_key sets q =
    sets q ∙ ap (λ (w : List ℕ). cond (is_at (text_cmp w) q) (Some k) (tree.get text_cmp old q)) same_path
    ∙ ap (λ (w : List ℕ). cond (is_at (text_cmp path) q) (Some w) (tree.get text_cmp old q)) same_key
