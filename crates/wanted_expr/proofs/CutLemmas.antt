-- A word is cut at its first `=`.
use Rattle.std.proofs.Common.{◌≡◌, ℕ, suc, ◌+◌, ◌≤◌, ◌==◌, not, List, [], ◌∷◌, ◌++◌, length, take, drop, refl, sym, ap, ◌∙◌, arith, append_assoc}
use Rattle.std.specs.Prelude.{codes}
use Rattle.std.specs.List.{prefix_len}
use Rattle.std.proofs.lemmas.Bool.{eqb-true}
use Rattle.std.proofs.lemmas.List.{take-append-drop}
use Rattle.std.proofs.lemmas.List.Sums.{prefix_len-le-length}
use Rattle.annex_base.proofs.Conditions.{by_test}
use Rattle.annex_base.proofs.Lists.{cons_first}
use Rattle.wanted_expr.specs.Words.{name_of}

abbrev pub end_of : List ℕ → ℕ
end_of text = prefix_len (λ b. not (b == 61)) text

name_cut : (text : List ℕ) → take (end_of text) text ≡ name_of text
name_cut [] = refl
name_cut (b ∷ bs) =
    let one_more : 1 + end_of bs ≡ suc (end_of bs) = omega arith in
    by_test (b == 61)
    (λ t. rw t refl)
    (λ t. rw t (ap (λ (n : ℕ). take n (b ∷ bs)) one_more ∙ ap (λ (w : List ℕ). b ∷ w) (name_cut bs)))

equals_next : (text : List ℕ) (x : ℕ) (rest : List ℕ) → drop (end_of text) text ≡ x ∷ rest → x ≡ 61
equals_next [] x rest e = absurd (omega (arith, ap length e))
equals_next (b ∷ bs) x rest e =
    let one_more : 1 + end_of bs ≡ suc (end_of bs) = omega arith in
    by_test (b == 61)
    (λ t. let k : b ∷ bs ≡ x ∷ rest = rw t at e in sym (cons_first b x bs rest k) ∙ eqb-true b 61 t)
    (λ t. let k : drop (1 + end_of bs) (b ∷ bs) ≡ x ∷ rest = rw t at e in equals_next bs x rest (ap (λ (n : ℕ). drop n (b ∷ bs)) (sym one_more) ∙ k))

pub within : (text : List ℕ) (end : ℕ) → end ≡ end_of text → end ≤ length text
within text end e = rw e (prefix_len-le-length (λ b. not (b == 61)) text)

pub name_is : (text name : List ℕ) (end : ℕ) → end ≡ end_of text → name ≡ take end text → name ≡ name_of text
name_is text name end e n = n ∙ (ap (λ (k : ℕ). take k text) e ∙ name_cut text)

pub with_value : (text name rest value : List ℕ) (x end : ℕ) → end ≡ end_of text → name ≡ take end text → rest ≡ drop end text → rest ≡ x ∷ value → text ≡ name ++ codes "=" ++ value
with_value text name rest value x end e n r s =
    let is : x ≡ 61 = equals_next text x value (ap (λ (k : ℕ). drop k text) (sym e) ∙ (sym r ∙ s)) in
    sym (take-append-drop end text) ∙ (ap (λ (w : List ℕ). w ++ drop end text) (sym n) ∙ (ap (λ (w : List ℕ). name ++ w) (sym r ∙ s ∙ ap (λ (d : ℕ). d ∷ value) is) ∙ sym (append_assoc name (codes "=") value)))
