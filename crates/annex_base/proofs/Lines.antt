-- Texts of one line: no byte of them is a newline.
use Rattle.std.proofs.Common.{◌≡◌, inl, inr, ℕ, ◌≤◌, true, false, ◌==◌, List, [], ◌∷◌, ◌++◌, take, drop, refl, sym, ap, subst, ◌∙◌, true≢false, arith}
use Rattle.std.specs.Prelude.{flat_map}
use Rattle.std.specs.Char.{is_ascii_digit}
use Rattle.std.specs.Fmt.{decimal}
use Rattle.std.specs.List.{onto_first, slice_split}
use Rattle.std.proofs.lemmas.Bool.{cases_Bool}
use Rattle.std.proofs.lemmas.Bool.Decides.{eqb_tells, nat_tests}
use Rattle.std.proofs.lemmas.List.{take-append-drop}
use Rattle.std.proofs.lemmas.List.Elements.{Contains-append_cases, Contains-append_left, Contains-append_right}
use Rattle.std.proofs.lemmas.List.Splits.{slice_split-cons_no, slice_split-cons_yes}
use Rattle.annex_base.specs.Lines.{newline, is_newline, is_not_newline, IsOneLine, is_one_line}
use Rattle.annex_base.specs.Lists.{Each, Member}
use Rattle.annex_base.specs.RepoText.{repo_text}
use Rattle.annex_base.specs.StampText.{stamp_text}
use Rattle.annex_base.proofs.Lists.{Contains-from_Member, Member-from_Contains, list_all_member}
use Rattle.annex_base.proofs.Numbers.{decimal-all, stamp_text-all}
use Rattle.annex_base.proofs.RepoLemmas.{repo_text-all}

-- ---- the forms of it

pub one_line-from_members : (text : List ℕ) → (Member newline text → ⊥) → IsOneLine text
one_line-from_members text none = λ has. none (Member-from_Contains text newline has)

pub one_line-members : (text : List ℕ) → IsOneLine text → Member newline text → ⊥
one_line-members text one among = one (Contains-from_Member text newline among)

newline_fails : (b : ℕ) → is_not_newline b ≡ true → newline ≡ b → ⊥
newline_fails b is same = true≢false (sym is ∙ ap is_not_newline (sym same))

-- by the test; a text that is written out passes by `refl`
pub one_line-by_test : (text : List ℕ) → is_one_line text ≡ true → IsOneLine text
one_line-by_test text passes =
    one_line-from_members text (λ among. newline_fails newline (list_all_member is_not_newline text newline passes among) refl)

pub one_line-passes : (text : List ℕ) → IsOneLine text → is_one_line text ≡ true
one_line-passes [] one = refl
one_line-passes (b ∷ text) one = elim (eqb_tells b newline) [
  | inl is ↦ absurd (one_line-members (b ∷ text) one (inl (sym is.1)))
  | inr other ↦ rw other.0 (one_line-passes text (λ has. one (Contains-append_right (b ∷ []) text newline has)))
]

-- ---- how texts are put together

pub one_line-nil : IsOneLine []
one_line-nil = one_line-by_test [] refl

pub one_line-append : (xs ys : List ℕ) → IsOneLine xs → IsOneLine ys → IsOneLine (xs ++ ys)
one_line-append xs ys first second = λ has. elim (Contains-append_cases xs ys newline has) [ inl front ↦ first front | inr back ↦ second back ]

pub one_line-left : (xs ys : List ℕ) → IsOneLine (xs ++ ys) → IsOneLine xs
one_line-left xs ys one = λ has. one (Contains-append_left xs ys newline has)

pub one_line-right : (xs ys : List ℕ) → IsOneLine (xs ++ ys) → IsOneLine ys
one_line-right xs ys one = λ has. one (Contains-append_right xs ys newline has)

pub one_line-cons : (b : ℕ) (text : List ℕ) → (b == newline) ≡ false → IsOneLine text → IsOneLine (b ∷ text)
one_line-cons b text other one = one_line-append (b ∷ []) text (one_line-by_test (b ∷ []) (rw other refl)) one

pub one_line-take : (n : ℕ) (text : List ℕ) → IsOneLine text → IsOneLine (take n text)
one_line-take n text one = one_line-left (take n text) (drop n text) (subst IsOneLine (sym (take-append-drop n text)) one)

pub one_line-drop : (n : ℕ) (text : List ℕ) → IsOneLine text → IsOneLine (drop n text)
one_line-drop n text one = one_line-right (take n text) (drop n text) (subst IsOneLine (sym (take-append-drop n text)) one)

pub one_line-flat_map : {X : Type 0} (f : X → List ℕ) (xs : List X) → Each (λ x. IsOneLine (f x)) xs → IsOneLine (flat_map f xs)
one_line-flat_map f [] each = one_line-nil
one_line-flat_map f (x ∷ xs) each = one_line-append (f x) (flat_map f xs) each.0 (one_line-flat_map f xs each.1)

-- ---- the parts of a text between newlines

onto_one : (b : ℕ) (parts : List (List ℕ)) → (b == newline) ≡ false → Each IsOneLine parts → Each IsOneLine (onto_first b parts)
onto_one b [] other all = (one_line-cons b [] other one_line-nil, tt)
onto_one b (part ∷ parts) other all = (one_line-cons b part other all.0, all.1)

pub one_line-split : (text : List ℕ) → Each IsOneLine (slice_split is_newline text)
one_line-split [] = (one_line-nil, tt)
one_line-split (b ∷ text) = elim (cases_Bool (b == newline)) [
  | inl is ↦ let P : List (List ℕ) → Type 0 = Each IsOneLine in subst P (sym (slice_split-cons_yes is_newline b text is)) (one_line-nil, one_line-split text)
  | inr other ↦
      let P : List (List ℕ) → Type 0 = Each IsOneLine in
      subst P (sym (slice_split-cons_no is_newline b text other)) (onto_one b (slice_split is_newline text) other (one_line-split text))
]

-- ---- the texts of numbers, stamps and identifiers

digit_passes : (d : ℕ) → is_ascii_digit d ≡ true → is_not_newline d ≡ true
digit_passes d is = grind (arith, nat_tests)

pub one_line-decimal : (n : ℕ) → IsOneLine (decimal n)
one_line-decimal n = one_line-by_test (decimal n) (decimal-all is_not_newline digit_passes n)

pub one_line-stamp_text : (n : ℕ) → IsOneLine (stamp_text n)
one_line-stamp_text n = one_line-by_test (stamp_text n) (stamp_text-all is_not_newline digit_passes refl refl n)

above_passes : (b : ℕ) → 45 ≤ b → is_not_newline b ≡ true
above_passes b low = grind (arith, nat_tests)

pub one_line-repo_text : (id : List ℕ) → IsOneLine (repo_text id)
one_line-repo_text id = one_line-by_test (repo_text id) (repo_text-all is_not_newline above_passes id)
