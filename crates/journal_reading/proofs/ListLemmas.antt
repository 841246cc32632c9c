-- Lists with a byte between their items are read as they are written.
use Rattle.std.proofs.Common.{◌≡◌, inl, inr, ℕ, Bool, true, false, not, ◌==◌, List, [], ◌∷◌, ◌++◌, map, Some, None, refl, sym, ap, subst, ◌∙◌}
use Rattle.std.specs.Prelude.{bytes_eq, codes}
use Rattle.std.specs.List.{flat_map}
use Rattle.std.proofs.lemmas.Bool.{and_parts, eqb-true}
use Rattle.std.proofs.lemmas.Bool.{cases_Bool}
use Rattle.std.proofs.lemmas.List.{append-nil}
use Rattle.annex_base.specs.Lists.{Each}
use Rattle.annex_base.specs.OptionSteps.{◌>>=◌}
use Rattle.annex_base.proofs.Conditions.{eqb_refl, bytes_eq-true, bytes_eq_tells}
use Rattle.annex_base.proofs.Options.{bind_some, some_where}
use Rattle.run_text.specs.Words.{joined_text}
use Rattle.journal_reading.specs.Forms.{Form, items_in, in_front, parts_of, joined}
use Rattle.journal_reading.proofs.FormLemmas.{IsForm, Lacks, lacks, is_other}

other_false : (t : Bool) → not t ≡ true → t ≡ false
other_false true e = absurd cc
other_false false e = refl

part_alone : (b : ℕ) (word : List ℕ) → lacks b word ≡ true → parts_of b word ≡ word ∷ []
part_alone b [] none = refl
part_alone b (x ∷ word) none =
    let both = and_parts (is_other b x) (lacks b word) none in
    rw (other_false (x == b) both.0, part_alone b word both.1) refl

part_first : (b : ℕ) (word rest : List ℕ) → lacks b word ≡ true → parts_of b (word ++ b ∷ rest) ≡ word ∷ parts_of b rest
part_first b [] rest none = rw (eqb_refl b) refl
part_first b (x ∷ word) rest none =
    let both = and_parts (is_other b x) (lacks b word) none in
    rw (other_false (x == b) both.0, part_first b word rest both.1) refl

items_there : {A : Type 0} (b : ℕ) (form : Form A) → IsForm form → Lacks b form → (x : A) (xs : List A) → form.ok x → Each form.ok xs
    → items_in form.read (parts_of b (joined_text b form.text (x ∷ xs))) ≡ Some (x ∷ xs)
items_there b form is none x [] ok each = rw (append-nil (form.text x), part_alone b (form.text x) (none x ok), is.there x ok) refl
items_there b form is none x (y ∷ ys) ok each =
    rw (part_first b (form.text x) (joined_text b form.text (y ∷ ys)) (none x ok), is.there x ok, items_there b form is none y ys each.0 each.1) refl

-- the parts with the byte between them are the text
abbrev glued : ℕ → List (List ℕ) → List ℕ
glued b parts = joined_text b (λ word. word) parts

in_front_filled : (y : ℕ) (parts : List (List ℕ)) → in_front y parts ≡ [] → ⊥
in_front_filled y [] e = absurd cc
in_front_filled y (p ∷ ps) e = absurd cc

parts_filled : (b : ℕ) (bytes : List ℕ) → parts_of b bytes ≡ [] → ⊥
parts_filled b [] e = absurd cc
parts_filled b (y ∷ ys) e = elim (cases_Bool (y == b)) [
  | inl here ↦ let clash : [] ∷ parts_of b ys ≡ [] = (rw here at e) in absurd cc
  | inr other ↦ in_front_filled y (parts_of b ys) (rw other at e)
]

in_front_glued : (b x : ℕ) (bytes : List ℕ) (parts : List (List ℕ)) → glued b (parts_of b bytes) ≡ bytes → parts_of b bytes ≡ parts → glued b (in_front x parts) ≡ x ∷ bytes
in_front_glued b x bytes [] e is = absurd (parts_filled b bytes is)
in_front_glued b x bytes (p ∷ ps) e is = ap (λ l. x ∷ l) (ap (glued b) (sym is) ∙ e)

first_glued : (b : ℕ) (parts : List (List ℕ)) (bytes : List ℕ) → glued b parts ≡ bytes → (parts ≡ [] → ⊥) → glued b ([] ∷ parts) ≡ b ∷ bytes
first_glued b [] bytes e some = absurd (some refl)
first_glued b (p ∷ ps) bytes e some = ap (λ l. b ∷ l) e

parts_glued : (b : ℕ) (bytes : List ℕ) → glued b (parts_of b bytes) ≡ bytes
parts_glued b [] = refl
parts_glued b (x ∷ bytes) = elim (cases_Bool (x == b)) [
  | inl here ↦ rw here (first_glued b (parts_of b bytes) bytes (parts_glued b bytes) (parts_filled b bytes) ∙ ap (λ y. y ∷ bytes) (sym (eqb-true x b here)))
  | inr other ↦ rw other (in_front_glued b x bytes (parts_of b bytes) (parts_glued b bytes) refl)
]

items_back : {A : Type 0} (form : Form A) → IsForm form → (parts : List (List ℕ)) (xs : List A) → items_in form.read parts ≡ Some xs → (parts ≡ map form.text xs) × Each form.ok xs
items_back {A} form is [] xs e = let same : [] ≡ xs = cc in subst (λ (ys : List A). ([] ≡ map form.text ys) × Each form.ok ys) same (refl, tt)
items_back {A} form is (word ∷ words) xs e =
    let h = bind_some (form.read word) (λ x. items_in form.read words >>= λ ys. Some (x ∷ ys)) xs e in
    let g = bind_some (items_in form.read words) (λ ys. Some (h.0 ∷ ys)) xs h.2 in
    let w = is.back word h.0 h.1 in
    let v = items_back form is words g.0 g.1 in
    let same : h.0 ∷ g.0 ≡ xs = same_some (h.0 ∷ g.0) xs g.2 in
    subst (λ (ys : List A). (word ∷ words ≡ map form.text ys) × Each form.ok ys) same (ap (λ l. l ∷ words) w.0 ∙ ap (λ l. form.text h.0 ∷ l) v.0, (w.1, v.1))
  where
    same_some : (x y : List A) → Some x ≡ Some y → x ≡ y
    same_some x y e = cc

glued_rest : {A : Type 0} (b : ℕ) (text : A → List ℕ) (xs : List A) → flat_map (λ (y : List ℕ). b ∷ y) (map text xs) ≡ flat_map (λ y. b ∷ text y) xs
glued_rest b text [] = refl
glued_rest b text (x ∷ xs) = ap (λ l. b ∷ text x ++ l) (glued_rest b text xs)

glued_texts : {A : Type 0} (b : ℕ) (text : A → List ℕ) (xs : List A) → glued b (map text xs) ≡ joined_text b text xs
glued_texts b text [] = refl
glued_texts b text (x ∷ xs) = ap (λ l. text x ++ l) (glued_rest b text xs)

joined_there : {A : Type 0} (b : ℕ) (form : Form A) → IsForm form → Lacks b form → (45 == b) ≡ false → form.read (codes "-") ≡ None
    → (xs : List A) → Each form.ok xs → (joined b form).read (joined_text b form.text xs) ≡ Some xs
joined_there b form is none apart dash [] each = refl
joined_there {A} b form is none apart dash (x ∷ xs) each = elim (bytes_eq_tells (codes "-") (joined_text b form.text (x ∷ xs))) [
  | inl same ↦
      let alone : items_in form.read (parts_of b (codes "-")) ≡ Some (x ∷ xs) = ap (λ l. items_in form.read (parts_of b l)) same.1 ∙ items_there b form is none x xs each.0 each.1 in
      let reads : None ≡ Some (x ∷ xs) = sym (dash_none b form apart dash) ∙ alone in absurd cc
  | inr other ↦ rw (other.0, items_there b form is none x xs each.0 each.1) refl
]
  where
    dash_none : (b : ℕ) (form : Form A) → (45 == b) ≡ false → form.read (codes "-") ≡ None → items_in form.read (parts_of b (codes "-")) ≡ None
    dash_none b form apart dash = rw (apart, dash) refl

joined_back : {A : Type 0} (b : ℕ) (form : Form A) → IsForm form → (word : List ℕ) (xs : List A) → (joined b form).read word ≡ Some xs → (word ≡ joined_text b form.text xs) × Each form.ok xs
joined_back {A} b form is word xs e = elim (some_where (bytes_eq (codes "-") word) [] xs (items_in form.read (parts_of b word)) e) [
  | inl dash ↦ subst (λ (ys : List A). (word ≡ joined_text b form.text ys) × Each form.ok ys) dash.1 (sym (bytes_eq-true (codes "-") word dash.0), tt)
  | inr plain ↦
      let v = items_back form is (parts_of b word) xs plain.1 in
      (sym (parts_glued b word) ∙ ap (glued b) v.0 ∙ glued_texts b form.text xs, v.1)
]

pub is_joined : {A : Type 0} (b : ℕ) (form : Form A) → IsForm form → Lacks b form → (45 == b) ≡ false → form.read (codes "-") ≡ None → IsForm (joined b form)
is_joined b form is none apart dash = record { there = joined_there b form is none apart dash; back = joined_back b form is }
