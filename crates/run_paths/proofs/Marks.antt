-- The tree of some marks, and of more.
use Rattle.std.proofs.Common.{◌≡◌, ℕ, zero, suc, ◌+◌, ◌≤◌, Bool, true, List, [], ◌∷◌, ◌++◌, drop, length, take, refl, sym, ap, ◌∙◌, subst, arith, length-append}
use Rattle.std.specs.Prelude.{if◌then◌else◌, nat_le}
use Rattle.std.specs.List.{fold}
use Rattle.std.proofs.lemmas.Bool.Decides.{nat_tests}
use Rattle.std.proofs.lemmas.List.{take-append-drop}
use Rattle.std.proofs.lemmas.List.Sums.{fold-append}
use Rattle.annex_base.specs.Lists.{Each}
use Rattle.annex_key.specs.Tree.{Entries, with_key}
use Rattle.run_data.specs.declared.run.TreeMark.{TreeMark}
use Rattle.run_model.specs.Run.{tree_at}
use Rattle.run_paths.specs.Paths.{IndexView, IsIndexOf, with_marks}

-- ---- lists

take_front : {X : Type 0} (n : ℕ) (xs ys : List X) → n ≤ length xs → take n (xs ++ ys) ≡ take n xs
take_front zero xs ys few = refl
take_front (suc n) [] ys few = absurd (omega (arith, few))
take_front (suc n) (x ∷ xs) ys few = ap (λ zs. x ∷ zs) (take_front n xs ys (omega (arith, few)))

take_none : {X : Type 0} (n : ℕ) → take {0} {A = X} n [] ≡ []
take_none zero = refl
take_none (suc n) = refl

take_sum : {X : Type 0} (m n : ℕ) (xs : List X) → take (m + n) xs ≡ take m xs ++ take n (drop m xs)
take_sum zero n xs = let none : zero + n ≡ n = omega arith in ap (λ k. take k xs) none
take_sum (suc m) n [] = take_none (suc m + n) ∙ sym (take_none n)
take_sum (suc m) n (x ∷ xs) = let one : suc m + n ≡ suc (m + n) = omega arith in ap (λ k. take k (x ∷ xs)) one ∙ ap (λ zs. x ∷ zs) (take_sum m n xs)

-- ---- trees

before : (a b : ℕ) → a ≤ b → nat_le a b ≡ true
before a b less = grind (arith, nat_tests)

-- what a mark makes of the tree at a place
abbrev marked_at : ℕ → Entries → TreeMark → Entries
marked_at place tree m = if nat_le m.place place then with_key tree m.path m.key else tree

all_from : (place : ℕ) (tree : Entries) (marks : List TreeMark) → Each (λ mark. mark.place ≤ place) marks → fold (marked_at place) tree marks ≡ with_marks tree marks
all_from place tree [] all = refl
all_from place tree (m ∷ marks) all =
    ap (λ (b : Bool). fold (marked_at place) (if b then with_key tree m.path m.key else tree) marks) (before m.place place all.0)
    ∙ all_from place (with_key tree m.path m.key) marks all.1

pub all_before : (marks : List TreeMark) (place : ℕ) → Each (λ mark. mark.place ≤ place) marks → tree_at marks place ≡ with_marks [] marks
all_before marks place all = all_from place [] marks all

pub with_both : (tree : Entries) (xs ys : List TreeMark) → with_marks tree (xs ++ ys) ≡ with_marks (with_marks tree xs) ys
with_both tree xs ys = fold-append (λ (entries : Entries) (mark : TreeMark). with_key entries mark.path mark.key) tree xs ys

-- ---- an index

more_room : (n k m l : ℕ) → n ≤ k → l ≡ k + m → n ≤ l
more_room n k m l few longer = omega (arith, few, longer)

index_longer : (marks later : List TreeMark) (index : IndexView) → IsIndexOf marks index → IsIndexOf (marks ++ later) index
index_longer marks later index is = record {
  few = more_room index.taken (length marks) (length later) (length (marks ++ later)) is.few (length-append marks later);
  tree_is = is.tree_is ∙ ap (with_marks []) (sym (take_front index.taken marks later is.few));
}

pub index_more : (marks : List TreeMark) (mark : TreeMark) (index : IndexView) → IsIndexOf marks index → IsIndexOf (marks ++ mark ∷ []) index
index_more marks mark = index_longer marks (mark ∷ [])

-- of some first marks, and of more of them
pub index_further : (marks : List TreeMark) (count more : ℕ) (index : IndexView) → IsIndexOf (take count marks) index → IsIndexOf (take (count + more) marks) index
index_further marks count more index is =
    subst (λ (xs : List TreeMark). IsIndexOf xs index) (sym (take_sum count more marks)) (index_longer (take count marks) (take more (drop count marks)) index is)

-- it has taken in some marks more
pub index_on : (marks later : List TreeMark) (was index : IndexView) → IsIndexOf marks was → later ≡ drop was.taken marks
    → (count : ℕ) × (count ≤ length later) × (index.taken ≡ was.taken + count) × (index.tree ≡ with_marks was.tree (take count later)) → IsIndexOf marks index
index_on marks later was index is rest more = record {
  few = fits index.taken was.taken more.0 (length later) (length marks) more.1 more.2 whole;
  tree_is = more.3 ∙ (ap (λ (tree : Entries). with_marks tree (take more.0 later)) is.tree_is
      ∙ (ap (λ (xs : List TreeMark). with_marks (with_marks [] (take was.taken marks)) (take more.0 xs)) rest
      ∙ (sym (with_both [] (take was.taken marks) (take more.0 (drop was.taken marks)))
      ∙ (ap (with_marks []) (sym (take_sum was.taken more.0 marks)) ∙ ap (λ (n : ℕ). with_marks [] (take n marks)) (sym more.2)))));
}
  where
    none_taken : (k : ℕ) → k ≡ 0 + k
    none_taken k = omega arith

    one_taken : (k n l : ℕ) → k ≡ n + l → suc k ≡ suc n + l
    one_taken k n l is = omega (arith, is)

    parts : (n : ℕ) (xs : List TreeMark) → n ≤ length xs → length xs ≡ n + length (drop n xs)
    parts zero xs few = none_taken (length xs)
    parts (suc n) [] few = absurd (omega (arith, few))
    parts (suc n) (x ∷ xs) few = one_taken (length xs) n (length (drop n xs)) (parts n xs (omega (arith, few)))

    whole : length marks ≡ was.taken + length later
    whole = parts was.taken marks is.few ∙ ap (λ (xs : List TreeMark). was.taken + length xs) (sym rest)

    fits : (now before count all most : ℕ) → count ≤ all → now ≡ before + count → most ≡ before + all → now ≤ most
    fits now before count all most less is whole = omega (arith, less, is, whole)

-- it has taken in all
pub index_whole : (marks later : List TreeMark) (was : IndexView) (tree : Entries) → IsIndexOf marks was → later ≡ drop was.taken marks → tree ≡ with_marks was.tree later → tree ≡ with_marks [] marks
index_whole marks later was tree is rest all =
    all ∙ (ap (λ (entries : Entries). with_marks entries later) is.tree_is
    ∙ (ap (with_marks (with_marks [] (take was.taken marks))) rest
    ∙ (sym (with_both [] (take was.taken marks) (drop was.taken marks)) ∙ ap (with_marks []) (take-append-drop was.taken marks))))
