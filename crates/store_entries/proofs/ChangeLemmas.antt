-- Lines that a file lacks, and whether it is there.
use Rattle.std.proofs.Common.{◌≡◌, ℕ, Bool, true, false, not, if◌then◌else◌, List, [], ◌∷◌, Option, Some, None, refl, sym, ap, subst, ◌∙◌}
use Rattle.std.specs.Prelude.{bytes_eq, cond, is_some, IsSome}
use Rattle.std.specs.List.{list_any}
use Rattle.annex_base.proofs.Conditions.{bytes_eq-refl, bytes_eq-true, same_test}
use Rattle.annex_base.proofs.Lists.{list_any_found, list_any_member}
use Rattle.node_model.specs.OwedLines.{if_new}
use Rattle.union_merge.specs.LineSet.{difference, has_line}
use Rattle.store_entries.specs.Changes.{AreNew}

-- ---- whether a file is there

pub some_there : (o : Option (List (List ℕ))) (lines : List (List ℕ)) → o ≡ Some lines → IsSome o
some_there o lines is = subst (λ (x : Option (List (List ℕ))). IsSome x) (sym is) refl

pub there_some : (o : Option (List (List ℕ))) → is_some o ≡ true → (lines : List (List ℕ)) × (o ≡ Some lines)
there_some (Some lines) is = (lines, refl)
there_some None is = absurd cc

pub not_there : (o : Option (List (List ℕ))) → is_some o ≡ false → o ≡ None
not_there (Some lines) is = absurd cc
not_there None is = refl

-- ---- lines that are new

pub difference_new : (lines own : List (List ℕ)) → AreNew (difference lines own) own
difference_new [] own = refl
difference_new (x ∷ xs) own = go (has_line own x) refl (difference_new xs own)
  where
    go : (b : Bool) → has_line own x ≡ b → difference (difference xs own) own ≡ difference xs own
        → difference (cond (not b) (x ∷ difference xs own) (difference xs own)) own ≡ cond (not b) (x ∷ difference xs own) (difference xs own)
    go true is rest = rest
    go false is rest = rw is (ap (λ (w : List (List ℕ)). x ∷ w) rest)

-- the tests of a line by each, whichever comes first
either_way : (line : List ℕ) (lines : List (List ℕ)) → has_line lines line ≡ list_any (λ old. bytes_eq old line) lines
either_way line lines = same_test (has_line lines line) (list_any (λ old. bytes_eq old line) lines)
    (λ is. let f = list_any_found (bytes_eq line) lines is in list_any_member (λ old. bytes_eq old line) lines f.0 f.1 (subst (λ (x : List ℕ). bytes_eq f.0 x ≡ true) (sym (bytes_eq-true line f.0 f.2)) (bytes_eq-refl f.0)))
    (λ is. let f = list_any_found (λ old. bytes_eq old line) lines is in list_any_member (bytes_eq line) lines f.0 f.1 (subst (λ (x : List ℕ). bytes_eq x f.0 ≡ true) (bytes_eq-true f.0 line f.2) (bytes_eq-refl f.0)))

pub if_new_new : (own : List (List ℕ)) (line : List ℕ) → AreNew (if_new own line) own
if_new_new own line = go (list_any (λ old. bytes_eq old line) own) refl
  where
    go : (b : Bool) → list_any (λ old. bytes_eq old line) own ≡ b → AreNew (if b then [] else line ∷ []) own
    go true is = refl
    go false is = let e = either_way line own ∙ is in rw e refl
