-- For private contracts: a formula is stored as the list of its words and operators, each behind its operands.
use Rattle.std.specs.Prelude.{◌≡◌, ◌⊎◌, Bool, true, false, List, [], ◌∷◌, ◌++◌, Option, Some, None}
use Rattle.std.proofs.Common.{inl, inr, refl, ap, sym, ◌∙◌, append_assoc, append-nil}
use Rattle.std.specs.Coded.{Coded, code_by, coded_bool, coded_list, coded_option, coded⊎}
use Rattle.wanted_expr.specs.contracts.data.Word as word
use Rattle.wanted_expr.specs.declared.data.Word.{Word}
use Rattle.wanted_expr.specs.declared.data.Word.TheVariants.{Anything}
use Rattle.wanted_expr.specs.Formula.{Formula, Atom, Negation, Conjunction, Disjunction}

-- a word, or `not`, `and` (true) and `or` (false)
abbrev pub Mark : Type 0
Mark = Option Bool ⊎ Word

abbrev pub marks : Formula → List Mark
marks (Atom w) = inr w ∷ []
marks (Negation a) = marks a ++ inl None ∷ []
marks (Conjunction a b) = marks a ++ (marks b ++ inl (Some true) ∷ [])
marks (Disjunction a b) = marks a ++ (marks b ++ inl (Some false) ∷ [])

abbrev pub with_mark : Mark → List Formula → List Formula
with_mark (inr w) fs = Atom w ∷ fs
with_mark (inl None) [] = []
with_mark (inl None) (a ∷ fs) = Negation a ∷ fs
with_mark (inl (Some both)) [] = []
with_mark (inl (Some both)) (a ∷ []) = []
with_mark (inl (Some true)) (b ∷ a ∷ fs) = Conjunction a b ∷ fs
with_mark (inl (Some false)) (b ∷ a ∷ fs) = Disjunction a b ∷ fs

abbrev pub with_marks : List Mark → List Formula → List Formula
with_marks [] fs = fs
with_marks (m ∷ ms) fs = with_marks ms (with_mark m fs)

abbrev pub first_of_all : List Formula → Formula
first_of_all [] = Atom Anything
first_of_all (f ∷ fs) = f

pub with_marks_append : (f : Formula) (ms : List Mark) (fs : List Formula) → with_marks (marks f ++ ms) fs ≡ with_marks ms (f ∷ fs)
with_marks_append (Atom w) ms fs = refl
with_marks_append (Negation a) ms fs =
    ap (λ (w : List Mark). with_marks w fs) (append_assoc (marks a) (inl None ∷ []) ms) ∙ with_marks_append a (inl None ∷ ms) fs
with_marks_append (Conjunction a b) ms fs =
    ap (λ (w : List Mark). with_marks w fs) (append_assoc (marks a) (marks b ++ inl (Some true) ∷ []) ms ∙ ap (λ (w : List Mark). marks a ++ w) (append_assoc (marks b) (inl (Some true) ∷ []) ms))
    ∙ (with_marks_append a (marks b ++ inl (Some true) ∷ ms) fs ∙ with_marks_append b (inl (Some true) ∷ ms) (a ∷ fs))
with_marks_append (Disjunction a b) ms fs =
    ap (λ (w : List Mark). with_marks w fs) (append_assoc (marks a) (marks b ++ inl (Some false) ∷ []) ms ∙ ap (λ (w : List Mark). marks a ++ w) (append_assoc (marks b) (inl (Some false) ∷ []) ms))
    ∙ (with_marks_append a (marks b ++ inl (Some false) ∷ ms) fs ∙ with_marks_append b (inl (Some false) ∷ ms) (a ∷ fs))

pub formula_back : (f : Formula) → first_of_all (with_marks (marks f) []) ≡ f
formula_back f = ap (λ (w : List Mark). first_of_all (with_marks w [])) (sym (append-nil (marks f))) ∙ ap first_of_all (with_marks_append f [] [])

abbrev pub formula_code : Coded Formula
formula_code = code_by (List Mark) (coded_list (coded⊎ (coded_option coded_bool) word.the_row.coded)) marks (λ ms. first_of_all (with_marks ms [])) formula_back
