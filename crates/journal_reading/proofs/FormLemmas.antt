-- Forms that read what they write, and nothing else.
use Rattle.std.proofs.Common.{◌≡◌, inl, inr, ℕ, ◌<◌, ◌^◌, Bool, true, false, not, ◌==◌, List, [], ◌∷◌, ◌++◌, Option, Some, None, refl, sym, ap, subst, ◌∙◌, arith}
use Rattle.std.specs.Prelude.{bytes_eq, codes}
use Rattle.std.specs.List.{find, list_all}
use Rattle.std.specs.Option.{option_map}
use Rattle.std.proofs.lemmas.Bool.{and_parts, eqb-true}
use Rattle.std.proofs.lemmas.Option.{cond_some}
use Rattle.annex_base.specs.OptionSteps.{◌>>=◌}
use Rattle.annex_base.specs.Lists.{Each}
use Rattle.annex_base.proofs.Conditions.{eqb_refl, bytes_eq-true, bytes_eq_tells}
use Rattle.annex_base.proofs.Lists.{find_member}
use Rattle.annex_base.proofs.Options.{bind_some, map_some, some_where, option_or-was}
use Rattle.script_words.specs.Marks.{behind_mark}
use Rattle.script_words.proofs.ContentLemmas.{mark_found, mark_written}
use Rattle.script_words.proofs.NumberLemmas.{number_read, number_written}
use Rattle.journal_reading.specs.Forms.{Form, Row, number, one_of, passing, nothing, or_dash, IfThere, onto, cut, behind, up_to, row_in, by_rows, row, table}

-- each text that the form writes is read as its value, and what is read as a value is its text
pub record IsForm {A : Type 0} (form : Form A) : Type 0 where
  pub there : (x : A) → form.ok x → form.read (form.text x) ≡ Some x
  pub back : (bytes : List ℕ) (x : A) → form.read bytes ≡ Some x → (bytes ≡ form.text x) × form.ok x

-- no byte of this kind stands in what the form writes
abbrev pub is_other : ℕ → ℕ → Bool
is_other b x = not (x == b)

abbrev pub lacks : ℕ → List ℕ → Bool
lacks b bytes = list_all (is_other b) bytes

abbrev pub Lacks : {A : Type 0} → ℕ → Form A → Type 0
Lacks {A} b form = (x : A) → form.ok x → lacks b (form.text x) ≡ true

-- ---- words

pub is_number : (greatest : ℕ) → greatest < 2 ^ 64 → IsForm (number greatest)
is_number greatest small = record {
  there = λ n ok. number_read greatest n ok (omega arith);
  back = λ word n e. let w = number_written greatest n word e in (w.0, w.1);
}

pub is_one_of : {A : Type 0} (text : A → List ℕ) (all : List A) → ((x : A) → find (λ y. bytes_eq (text y) (text x)) all ≡ Some x) → IsForm (one_of text all)
is_one_of text all each = record {
  there = λ x ok. each x;
  back = λ word x e. (sym (bytes_eq-true (text x) word (find_member (λ y. bytes_eq (text y) word) all x e).1), tt);
}

pub is_passing : (test : List ℕ → Bool) → IsForm (passing test)
is_passing test = record {
  there = λ word ok. rw ok refl;
  back = λ word x e. let h = cond_some (test word) word x e in (h.1, subst (λ w. test w ≡ true) h.1 h.0);
}

pub is_nothing : IsForm nothing
is_nothing = record {
  there = λ x ok. refl;
  back = λ bytes x e. let h = cond_some (bytes_eq [] bytes) tt x e in (sym (bytes_eq-true [] bytes h.0), tt);
}

dash_there : {A : Type 0} (form : Form A) → IsForm form → form.read (codes "-") ≡ None → (x : Option A) → IfThere form.ok x → (or_dash form).read ((or_dash form).text x) ≡ Some x
dash_there form is none None ok = refl
dash_there form is none (Some x) ok = elim (bytes_eq_tells (codes "-") (form.text x)) [
  | inl same ↦ let clash : None ≡ Some x = sym none ∙ ap form.read same.1 ∙ is.there x ok in absurd cc
  | inr other ↦ rw (other.0, is.there x ok) refl
]

dash_back : {A : Type 0} (form : Form A) → IsForm form → (word : List ℕ) (x : Option A) → (or_dash form).read word ≡ Some x → (word ≡ (or_dash form).text x) × IfThere form.ok x
dash_back {A} form is word x e = elim (some_where (bytes_eq (codes "-") word) None x (option_map Some (form.read word)) e) [
  | inl dash ↦ subst (λ y. (word ≡ (or_dash form).text y) × IfThere form.ok y) dash.1 (sym (bytes_eq-true (codes "-") word dash.0), tt)
  | inr plain ↦
      let h = map_some (form.read word) Some x plain.1 in
      subst (λ y. (word ≡ (or_dash form).text y) × IfThere form.ok y) h.2 (is.back word h.0 h.1)
]

pub is_or_dash : {A : Type 0} (form : Form A) → IsForm form → form.read (codes "-") ≡ None → IsForm (or_dash form)
is_or_dash form is none = record { there = dash_there form is none; back = dash_back form is }

-- ---- what follows

pub is_behind : {A : Type 0} (mark : List ℕ) (form : Form A) → IsForm form → IsForm (behind mark form)
is_behind mark form is = record {
  there = λ x ok. rw mark_found (is.there x ok);
  back = λ bytes x e.
      let h = bind_some (behind_mark mark bytes) form.read x e in
      let w = is.back h.0 x h.2 in
      (mark_written mark bytes h.0 h.1 ∙ ap (λ l. mark ++ l) w.0, w.1);
}

pub cut_found : (b : ℕ) (front rest : List ℕ) → lacks b front ≡ true → cut b (front ++ b ∷ rest) ≡ Some (front, rest)
cut_found b [] rest none = rw (eqb_refl b) refl
cut_found b (x ∷ front) rest none =
    let both = and_parts (is_other b x) (lacks b front) none in
    rw (other_false (x == b) both.0, cut_found b front rest both.1) refl
  where
    other_false : (t : Bool) → not t ≡ true → t ≡ false
    other_false true e = absurd cc
    other_false false e = refl

pub cut_written : (b : ℕ) (bytes : List ℕ) (parts : List ℕ × List ℕ) → cut b bytes ≡ Some parts → bytes ≡ parts.0 ++ b ∷ parts.1
cut_written b [] parts e = absurd cc
cut_written b (x ∷ xs) parts e = elim (some_where (x == b) ([], xs) parts (option_map (onto x) (cut b xs)) e) [
  | inl here ↦ subst (λ p. x ∷ xs ≡ p.0 ++ b ∷ p.1) here.1 (ap (λ y. y ∷ xs) (eqb-true x b here.0))
  | inr later ↦
      let h = map_some (cut b xs) (onto x) parts later.1 in
      subst (λ p. x ∷ xs ≡ p.0 ++ b ∷ p.1) h.2 (ap (λ l. x ∷ l) (cut_written b xs h.0 h.1))
]

pub is_up_to : {A B : Type 0} (b : ℕ) (first : Form A) (next : A → Form B) → IsForm first → Lacks b first → ((x : A) → first.ok x → IsForm (next x)) → IsForm (up_to b first next)
is_up_to {A} {B} b first next is none others = record {
  there = λ x ok. rw (cut_found b (first.text x.0) ((next x.0).text x.1) (none x.0 ok.0), is.there x.0 ok.0, (others x.0 ok.0).there x.1 ok.1) refl;
  back = λ bytes x e.
      let h = bind_some (cut b bytes) (λ parts. first.read parts.0 >>= λ a. (next a).read parts.1 >>= λ y. Some (a, y)) x e in
      let g = bind_some (first.read h.0.0) (λ a. (next a).read h.0.1 >>= λ y. Some (a, y)) x h.2 in
      let f = bind_some ((next g.0).read h.0.1) (λ y. Some (g.0, y)) x g.2 in
      let w = is.back h.0.0 g.0 g.1 in
      let v = (others g.0 w.1).back h.0.1 f.0 f.1 in
      let whole : bytes ≡ first.text g.0 ++ b ∷ (next g.0).text f.0 = cut_written b bytes h.0 h.1 ∙ ap (λ l. l ++ b ∷ h.0.1) w.0 ∙ ap (λ l. first.text g.0 ++ b ∷ l) v.0 in
      subst (λ (y : A × B). (bytes ≡ first.text y.0 ++ b ∷ (next y.0).text y.1) × (first.ok y.0 × (next y.0).ok y.1)) (same_some (g.0, f.0) x f.2) (whole, (w.1, v.1));
}
  where
    same_some : (x y : A × B) → Some x ≡ Some y → x ≡ y
    same_some x y e = cc

-- ---- tables

-- what the row reads is the text of the value that it gives
abbrev pub RowBack : {A : Type 0} → (A → List ℕ) → (A → Type 0) → Row A → Type 0
RowBack {A} text ok r = (rest : List ℕ) (x : A) → r.read rest ≡ Some x → (r.mark ++ rest ≡ text x) × ok x

pub rows_back : {A : Type 0} (text : A → List ℕ) (ok : A → Type 0) (rows : List (Row A)) → Each (RowBack text ok) rows
    → (bytes : List ℕ) (x : A) → by_rows rows bytes ≡ Some x → (bytes ≡ text x) × ok x
rows_back text ok [] each bytes x e = absurd cc
rows_back text ok (r ∷ rows) each bytes x e = elim (option_or-was (row_in bytes r) (by_rows rows bytes) x e) [
  | inl here ↦
      let h = bind_some (behind_mark r.mark bytes) r.read x here in
      let w = each.0 h.0 x h.2 in
      (mark_written r.mark bytes h.0 h.1 ∙ w.0, w.1)
  | inr later ↦ rows_back text ok rows each.1 bytes x later
]

pub is_table : {A : Type 0} (text : A → List ℕ) (rows : List (Row A)) (ok : A → Type 0) → Each (RowBack text ok) rows → ((x : A) → ok x → by_rows rows (text x) ≡ Some x) → IsForm (table text rows ok)
is_table text rows ok each there = record { there = there; back = rows_back text ok rows each }

-- a row of a form
pub row_back : {A X : Type 0} (text : A → List ℕ) (ok : A → Type 0) (mark : List ℕ) (form : Form X) (made : X → A) → IsForm form
    → ((x : X) → form.ok x → (mark ++ form.text x ≡ text (made x)) × ok (made x)) → RowBack text ok (row mark form made)
row_back {A} {X} text ok mark form made is spelled rest x e =
    let h = map_some (form.read rest) made x e in
    let w = is.back rest h.0 h.1 in
    let v = spelled h.0 w.1 in
    subst (λ (y : A). (mark ++ rest ≡ text y) × ok y) h.2 (ap (λ l. mark ++ l) w.0 ∙ v.0, v.1)

pub row_gives : {A X : Type 0} (mark : List ℕ) (form : Form X) (made : X → A) → IsForm form → (x : X) → form.ok x → (bytes : List ℕ) → mark ++ form.text x ≡ bytes → row_in bytes (row mark form made) ≡ Some (made x)
row_gives mark form made is x ok bytes spelled = rw (← spelled, mark_found, is.there x ok) refl

-- the first row reads it, or a later one where the first reads nothing
pub first_reads : {A : Type 0} (r : Row A) (rows : List (Row A)) (bytes : List ℕ) (x : A) → row_in bytes r ≡ Some x → by_rows (r ∷ rows) bytes ≡ Some x
first_reads r rows bytes x e = rw e refl

pub later_reads : {A : Type 0} (r : Row A) (rows : List (Row A)) (bytes : List ℕ) (x : A) → row_in bytes r ≡ None → by_rows rows bytes ≡ Some x → by_rows (r ∷ rows) bytes ≡ Some x
later_reads r rows bytes x none e = rw none e
