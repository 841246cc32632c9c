-- Lines in byte order, and lines that a file has.
use Rattle.std.proofs.Common.{◌≡◌, ◌↔◌, ℕ, Bool, true, false, List, [], ◌∷◌, Some, None, refl, sym, ap, subst, ◌∙◌, arith}
use Rattle.std.specs.Prelude.{◌&&◌, ◌==◌, length}
use Rattle.std.specs.List.{list_all}
use Rattle.std.proofs.lemmas.Bool.{eqb-true}
use Rattle.std.specs.Ordering.{is_lt}
use Rattle.annex_base.specs.ByteOrder.{text_cmp}
use Rattle.annex_base.specs.Lists.{Member}
use Rattle.annex_base.proofs.Conditions.{bytes_eq-refl, bytes_eq-true}
use Rattle.annex_base.proofs.Lists.{Each-from_list_all, Each-weaker, list_all-from_Each, list_any_found, list_any_member}
use Rattle.annex_base.proofs.TextOrder.{Before-trans}
use Rattle.std.specs.declared.cmp.Ordering.{Ordering}
use Rattle.std.specs.declared.cmp.Ordering.TheVariants.{Less, Equal, Greater}
use Rattle.std.specs.Prelude.{bytes_eq}
use Rattle.union_merge.specs.LineSet.{has_line, is_empty}
use Rattle.step_judging.specs.Rules.{is_rising}
use Rattle.any_time_checks.specs.Coming.{rise_behind}
use Rattle.any_time_checks.proofs.FrameLemmas.{same_tests}

less_is : (o : Ordering) → is_lt o ≡ true → o ≡ Less
less_is Less e = refl
less_is Equal e = absurd (cc)
less_is Greater e = absurd (cc)

-- what comes before one comes before all that this one does
all_behind : (x y : List ℕ) (ys : List (List ℕ)) → is_lt (text_cmp x y) ≡ true → list_all (λ z. is_lt (text_cmp y z)) ys ≡ true → list_all (λ z. is_lt (text_cmp x z)) ys ≡ true
all_behind x y ys first all =
    list_all-from_Each (λ z. is_lt (text_cmp x z)) ys
    (Each-weaker (λ z. is_lt (text_cmp y z) ≡ true) (λ z. is_lt (text_cmp x z) ≡ true)
    (λ z less. ap is_lt (Before-trans x y z (less_is (text_cmp x y) first) (less_is (text_cmp y z) less))) ys (Each-from_list_all (λ z. is_lt (text_cmp y z)) ys all))

rise_after : (x : List ℕ) (xs : List (List ℕ)) → rise_behind (Some x) xs ≡ (list_all (λ y. is_lt (text_cmp x y)) xs && is_rising xs)
rise_after x [] = refl
rise_after x (y ∷ ys) = ap (λ (b : Bool). is_lt (text_cmp x y) && b) (rise_after y ys) ∙ go (is_lt (text_cmp x y)) refl (list_all (λ z. is_lt (text_cmp y z)) ys) refl
  where
    go : (b : Bool) → is_lt (text_cmp x y) ≡ b → (c : Bool) → list_all (λ z. is_lt (text_cmp y z)) ys ≡ c
        → (b && (c && is_rising ys)) ≡ ((b && list_all (λ z. is_lt (text_cmp x z)) ys) && (c && is_rising ys))
    go false first c all = refl
    go true first true all = ap (λ (d : Bool). d && is_rising ys) (sym (all_behind x y ys first all))
    go true first false all = none (list_all (λ z. is_lt (text_cmp x z)) ys)
      where
        none : (d : Bool) → false ≡ (d && false)
        none true = refl
        none false = refl

pub rise_same : (xs : List (List ℕ)) → is_rising xs ≡ rise_behind None xs
rise_same [] = refl
rise_same (x ∷ xs) = sym (rise_after x xs)

-- ---- lines that a file has

pub has_same : (b : Bool) (line : List ℕ) (lines : List (List ℕ)) → (b ≡ true ↔ Member line lines) → b ≡ has_line lines line
has_same b line lines tells = same_tests b (has_line lines line)
    (λ is. list_any_member (bytes_eq line) lines line (tells.0 is) (bytes_eq-refl line))
    (λ is. let w = list_any_found (bytes_eq line) lines is in tells.1 (subst (λ (x : List ℕ). Member x lines) (sym (bytes_eq-true line w.0 w.2)) w.1))

-- the test of the lines that it has
pub has_here : (b : Bool) (bytes line : List ℕ) (lines : List (List ℕ)) → bytes ≡ line → (b ≡ true ↔ Member bytes lines) → b ≡ has_line lines line
has_here b bytes line lines is tells = has_same b bytes lines tells ∙ ap (has_line lines) is

pub empty_len : (xs : List ℕ) → (length xs == 0) ≡ is_empty xs
empty_len [] = refl
empty_len (x ∷ xs) = go (length (x ∷ xs) == 0) refl
  where
    go : (b : Bool) → (length (x ∷ xs) == 0) ≡ b → b ≡ false
    go false is = refl
    go true is = absurd (let none : length (x ∷ xs) ≡ 0 = eqb-true (length (x ∷ xs)) 0 is in omega (arith, none))
