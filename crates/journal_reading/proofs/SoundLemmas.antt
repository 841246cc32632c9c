-- Sound forms: read as they are written, and of one line.
use Rattle.std.proofs.Common.{◌≡◌, inl, inr, ℕ, Bool, true, if◌then◌else◌, List, [], ◌∷◌, ◌++◌, Option, Some, None, refl, sym, subst}
use Rattle.std.specs.Prelude.{bytes_eq, codes}
use Rattle.std.specs.List.{find, list_all}
use Rattle.std.specs.Option.{option_map}
use Rattle.std.specs.Fmt.{decimal}
use Rattle.std.proofs.lemmas.Option.{cond_some}
use Rattle.annex_base.specs.Lines.{newline, is_not_newline, is_one_line}
use Rattle.annex_base.specs.OptionSteps.{◌>>=◌}
use Rattle.annex_base.specs.Lists.{Each}
use Rattle.annex_base.proofs.Conditions.{bytes_eq-true}
use Rattle.annex_base.proofs.Lines.{one_line-passes, one_line-decimal}
use Rattle.annex_base.proofs.Lists.{find_member, list_all_append, list_all_member}
use Rattle.annex_base.proofs.Options.{bind_some, map_some, some_where, option_or-was}
use Rattle.script_words.specs.Marks.{behind_mark}
use Rattle.script_words.proofs.ContentLemmas.{mark_written}
use Rattle.script_words.proofs.NumberLemmas.{number_written}
use Rattle.journal_reading.specs.Forms.{Form, Row, number, one_of, passing, nothing, or_dash, cut, behind, up_to, by_rows, row_in, row, table, tested}
use Rattle.journal_reading.proofs.FormLemmas.{IsForm, Lacks, is_one_of, is_passing, is_nothing, is_or_dash, is_behind, cut_written, is_up_to, RowBack, is_table, row_back}

-- what the form reads is one line
abbrev pub OneLine : {A : Type 0} → Form A → Type 0
OneLine {A} form = (bytes : List ℕ) (x : A) → form.read bytes ≡ Some x → is_one_line bytes ≡ true

pub line_by_text : {A : Type 0} (form : Form A) → IsForm form → Lacks newline form → OneLine form
line_by_text form is none bytes x e = let w = is.back bytes x e in subst (λ l. is_one_line l ≡ true) (sym w.0) (none x w.1)

pub text_by_line : {A : Type 0} (form : Form A) → IsForm form → OneLine form → (x : A) → form.ok x → is_one_line (form.text x) ≡ true
text_by_line form is line x ok = line (form.text x) x (is.there x ok)

pub line_append : (front rest : List ℕ) → is_one_line front ≡ true → is_one_line rest ≡ true → is_one_line (front ++ rest) ≡ true
line_append front rest a b = list_all_append is_not_newline front rest a b

-- ---- words

pub number_line : (greatest : ℕ) → OneLine (number greatest)
number_line greatest bytes n e = subst (λ l. is_one_line l ≡ true) (sym (number_written greatest n bytes e).0) (one_line-passes (decimal n) (one_line-decimal n))

pub one_of_line : {A : Type 0} (text : A → List ℕ) (all : List A) → list_all (λ x. is_one_line (text x)) all ≡ true → OneLine (one_of text all)
one_of_line text all each bytes x e =
    let m = find_member (λ y. bytes_eq (text y) bytes) all x e in
    subst (λ l. is_one_line l ≡ true) (bytes_eq-true (text x) bytes m.1) (list_all_member (λ y. is_one_line (text y)) all x each m.0)

pub passing_line : (test : List ℕ → Bool) → ((word : List ℕ) → test word ≡ true → is_one_line word ≡ true) → OneLine (passing test)
passing_line test line bytes x e = line bytes (cond_some (test bytes) bytes x e).0

pub nothing_line : OneLine nothing
nothing_line bytes x e = let h = cond_some (bytes_eq [] bytes) tt x e in subst (λ l. is_one_line l ≡ true) (bytes_eq-true [] bytes h.0) refl

pub dash_line : {A : Type 0} (form : Form A) → OneLine form → OneLine (or_dash form)
dash_line form line bytes x e = elim (some_where (bytes_eq (codes "-") bytes) None x (option_map Some (form.read bytes)) e) [
  | inl dash ↦ subst (λ l. is_one_line l ≡ true) (bytes_eq-true (codes "-") bytes dash.0) refl
  | inr plain ↦ let h = map_some (form.read bytes) Some x plain.1 in line bytes h.0 h.1
]

pub tested_line : {A : Type 0} (test : A → Bool) (form : Form A) → OneLine form → OneLine (tested test form)
tested_line test form line bytes x e =
    let h = bind_some (form.read bytes) (λ y. if test y then Some y else None) x e in line bytes h.0 h.1

-- ---- what follows

pub behind_line : {A : Type 0} (mark : List ℕ) (form : Form A) → is_one_line mark ≡ true → OneLine form → OneLine (behind mark form)
behind_line mark form plain line bytes x e =
    let h = bind_some (behind_mark mark bytes) form.read x e in
    subst (λ l. is_one_line l ≡ true) (sym (mark_written mark bytes h.0 h.1)) (line_append mark h.0 plain (line h.0 x h.2))

pub up_to_line : {A B : Type 0} (b : ℕ) (first : Form A) (next : A → Form B) → is_not_newline b ≡ true → OneLine first → ((x : A) → OneLine (next x)) → OneLine (up_to b first next)
up_to_line b first next other line more bytes x e =
    let h = bind_some (cut b bytes) (λ parts. first.read parts.0 >>= λ a. (next a).read parts.1 >>= λ y. Some (a, y)) x e in
    let g = bind_some (first.read h.0.0) (λ a. (next a).read h.0.1 >>= λ y. Some (a, y)) x h.2 in
    let f = bind_some ((next g.0).read h.0.1) (λ y. Some (g.0, y)) x g.2 in
    subst (λ l. is_one_line l ≡ true) (sym (cut_written b bytes h.0 h.1))
    (line_append h.0.0 (b ∷ h.0.1) (line h.0.0 g.0 g.1) (line_append (b ∷ []) h.0.1 (rw other refl) (more g.0 h.0.1 f.0 f.1)))

-- ---- sound forms

pub record Sound (A : Type 0) : Type 1 where
  pub form : Form A
  pub is : IsForm form
  pub line : OneLine form

abbrev pub sound_behind : {A : Type 0} (mark : List ℕ) (next : Sound A) → is_one_line mark ≡ true → Sound A
sound_behind mark next plain = record { form = behind mark next.form; is = is_behind mark next.form next.is; line = behind_line mark next.form plain next.line }

abbrev pub sound_up_to : {A B : Type 0} (b : ℕ) (first : Sound A) (next : A → Sound B) → Lacks b first.form → is_not_newline b ≡ true → Sound (A × B)
sound_up_to b first next none other = record {
  form = up_to b first.form (λ x. (next x).form);
  is = is_up_to b first.form (λ x. (next x).form) first.is none (λ x ok. (next x).is);
  line = up_to_line b first.form (λ x. (next x).form) other first.line (λ x. (next x).line);
}

abbrev pub sound_nothing : Sound Unit
sound_nothing = record { form = nothing; is = is_nothing; line = nothing_line }

abbrev pub sound_dash : {A : Type 0} (word : Sound A) → word.form.read (codes "-") ≡ None → Sound (Option A)
sound_dash word none = record { form = or_dash word.form; is = is_or_dash word.form word.is none; line = dash_line word.form word.line }

abbrev pub sound_one_of : {A : Type 0} (text : A → List ℕ) (all : List A) → ((x : A) → find (λ y. bytes_eq (text y) (text x)) all ≡ Some x) → list_all (λ x. is_one_line (text x)) all ≡ true → Sound A
sound_one_of text all each plain = record { form = one_of text all; is = is_one_of text all each; line = one_of_line text all plain }

abbrev pub sound_passing : (test : List ℕ → Bool) → ((word : List ℕ) → test word ≡ true → is_one_line word ≡ true) → Sound (List ℕ)
sound_passing test plain = record { form = passing test; is = is_passing test; line = passing_line test plain }

-- ---- rows

abbrev pub RowLine : {A : Type 0} → Row A → Type 0
RowLine {A} r = (rest : List ℕ) (x : A) → r.read rest ≡ Some x → is_one_line (r.mark ++ rest) ≡ true

pub row_line : {A X : Type 0} (mark : List ℕ) (form : Form X) (made : X → A) → is_one_line mark ≡ true → OneLine form → RowLine (row mark form made)
row_line mark form made plain line rest x e =
    let h = map_some (form.read rest) made x e in line_append mark rest plain (line rest h.0 h.1)

pub rows_line : {A : Type 0} (rows : List (Row A)) → Each RowLine rows → (bytes : List ℕ) (x : A) → by_rows rows bytes ≡ Some x → is_one_line bytes ≡ true
rows_line [] each bytes x e = absurd cc
rows_line (r ∷ rows) each bytes x e = elim (option_or-was (row_in bytes r) (by_rows rows bytes) x e) [
  | inl here ↦
      let h = bind_some (behind_mark r.mark bytes) r.read x here in
      subst (λ l. is_one_line l ≡ true) (sym (mark_written r.mark bytes h.0 h.1)) (each.0 h.0 x h.2)
  | inr later ↦ rows_line rows each.1 bytes x later
]

-- a row that gives values whose text it reads, of one line
pub record SoundRow {A : Type 0} (text : A → List ℕ) (ok : A → Type 0) : Type 0 where
  pub that : Row A
  pub back : RowBack text ok that
  pub line : RowLine that

abbrev pub sound_row : {A X : Type 0} (text : A → List ℕ) (ok : A → Type 0) (mark : List ℕ) (fields : Sound X) (made : X → A) → is_one_line mark ≡ true
    → ((x : X) → fields.form.ok x → (mark ++ fields.form.text x ≡ text (made x)) × ok (made x)) → SoundRow text ok
sound_row text ok mark fields made plain spelled = record {
  that = row mark fields.form made;
  back = row_back text ok mark fields.form made fields.is spelled;
  line = row_line mark fields.form made plain fields.line;
}

abbrev pub those : {A : Type 0} (text : A → List ℕ) (ok : A → Type 0) → List (SoundRow text ok) → List (Row A)
those text ok [] = []
those text ok (r ∷ rows) = r.that ∷ those text ok rows

pub those_back : {A : Type 0} (text : A → List ℕ) (ok : A → Type 0) (rows : List (SoundRow text ok)) → Each (RowBack text ok) (those text ok rows)
those_back text ok [] = tt
those_back text ok (r ∷ rows) = (r.back, those_back text ok rows)

pub those_line : {A : Type 0} (text : A → List ℕ) (ok : A → Type 0) (rows : List (SoundRow text ok)) → Each RowLine (those text ok rows)
those_line text ok [] = tt
those_line text ok (r ∷ rows) = (r.line, those_line text ok rows)

pub is_table_of : {A : Type 0} (text : A → List ℕ) (ok : A → Type 0) (rows : List (SoundRow text ok)) → ((x : A) → ok x → by_rows (those text ok rows) (text x) ≡ Some x) → IsForm (table text (those text ok rows) ok)
is_table_of text ok rows there = is_table text (those text ok rows) ok (those_back text ok rows) there

pub line_of_table : {A : Type 0} (text : A → List ℕ) (ok : A → Type 0) (rows : List (SoundRow text ok)) → OneLine (table text (those text ok rows) ok)
line_of_table text ok rows = rows_line (those text ok rows) (those_line text ok rows)
