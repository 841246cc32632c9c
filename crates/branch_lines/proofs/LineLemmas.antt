-- The line of a status is a line of a branch.
use Rattle.std.proofs.Common.{◌≡◌, ℕ, ◌+◌, Bool, true, false, ◌&&◌, List, [], ◌∷◌, ◌++◌, Some, bytes_eq, refl, ap, subst, ◌↔◌, IsTrue}
use Rattle.std.specs.Prelude.{nat_eq}
use Rattle.std.specs.Cmp.Lexicographic.{pointwise}
use Rattle.annex_base.proofs.Conditions.{bytes_eq-refl, bytes_eq-true, same_test}
use Rattle.run_data.specs.declared.entry.LogFile.TheVariants.{Location}
use Rattle.node_model.specs.OwedLines.{same_lines, status}
use Rattle.std.specs.List.{list_any}
use Rattle.annex_base.specs.Lines.{IsOneLine, space}
use Rattle.annex_base.specs.RepoText.{repo_text}
use Rattle.annex_base.specs.StampText.{stamp_text}
use Rattle.annex_base.specs.Lists.{Member}
use Rattle.annex_base.proofs.Lines.{one_line-by_test, one_line-cons, one_line-members, one_line-nil, one_line-repo_text, one_line-stamp_text, one_line-append}
use Rattle.annex_base.proofs.Lists.{append_nil_left, cons_nil, list_any_found, list_any_member}
use Rattle.log_lines.specs.declared.entry.LogKind.TheVariants as kinds
use Rattle.log_lines.specs.declared.entry.Topic.TheVariants as topics
use Rattle.log_lines.specs.LineText.{line_text, spaced_text, value_text}
use Rattle.union_merge.specs.LineSet.{IsLine}

-- ---- lines that are due

pub same_lines_is : (xs ys : List (List ℕ)) → pointwise (pointwise nat_eq) xs ys ≡ same_lines xs ys
same_lines_is [] [] = refl
same_lines_is [] (y ∷ ys) = refl
same_lines_is (x ∷ xs) [] = refl
same_lines_is (x ∷ xs) (y ∷ ys) = ap (λ (b : Bool). bytes_eq x y && b) (same_lines_is xs ys)

not_empty : (xs ys : List ℕ) (y : ℕ) → xs ++ (y ∷ ys) ≡ [] → ⊥
not_empty [] ys y none = cons_nil y ys none
not_empty (x ∷ xs) ys y none = cons_nil x (xs ++ (y ∷ ys)) none

-- ---- the line of a status

one_letter : (there : Bool) → IsOneLine (value_text (status there))
one_letter true = one_line-by_test (value_text (status true)) refl
one_letter false = one_line-by_test (value_text (status false)) refl

one_status : (id : List ℕ) (there : Bool) (time : ℕ) → IsOneLine (spaced_text (record { topic = topics.Repo id; stamp = Some time; value = status there }))
one_status id there time =
    let front : List ℕ = stamp_text time ++ (space ∷ []) in
    let one : IsOneLine (space ∷ []) = one_line-cons space [] refl one_line-nil in
    one_line-append ((front ++ value_text (status there)) ++ (space ∷ [])) (repo_text id)
    (one_line-append (front ++ value_text (status there)) (space ∷ [])
    (one_line-append front (value_text (status there)) (one_line-append (stamp_text time) (space ∷ []) (one_line-stamp_text time) one) (one_letter there)) one)
    (one_line-repo_text id)

pub status_is_line : (id : List ℕ) (there : Bool) (time : ℕ) → IsLine (line_text kinds.Location (record { topic = topics.Repo id; stamp = Some time; value = status there }))
status_is_line id there time =
    let front : List ℕ = stamp_text time ++ (space ∷ []) in
    let line : List ℕ = ((front ++ value_text (status there)) ++ (space ∷ [])) ++ repo_text id in
    record {
      some = λ none. not_empty (stamp_text time) [] space
          (append_nil_left front (value_text (status there))
          (append_nil_left (front ++ value_text (status there)) (space ∷ [])
          (append_nil_left ((front ++ value_text (status there)) ++ (space ∷ [])) (repo_text id) none)));
      single = one_line-members line (one_status id there time);
    }

-- ---- a line that a file has

pub found_is : (b : Bool) (line : List ℕ) (lines : List (List ℕ)) → IsTrue b ↔ Member line lines → b ≡ list_any (λ old. bytes_eq old line) lines
found_is b line lines tells = same_test b (list_any (λ old. bytes_eq old line) lines)
    (λ is. list_any_member (λ old. bytes_eq old line) lines line (tells.0 is) (bytes_eq-refl line))
    (λ is. let f = list_any_found (λ old. bytes_eq old line) lines is in tells.1 (subst (λ (x : List ℕ). Member x lines) (bytes_eq-true f.0 line f.2) f.1))
