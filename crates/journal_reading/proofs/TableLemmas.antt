-- Tables: a value is read by its own row, where no row before it reads its text.
use Rattle.std.proofs.Common.{◌≡◌, ℕ, zero, suc, Bool, true, List, [], ◌∷◌, ◌++◌, Option, Some, None, refl, sym, subst}
use Rattle.std.specs.Prelude.{◌&&◌, is_none}
use Rattle.std.proofs.lemmas.Bool.{and_parts}
use Rattle.annex_base.proofs.Options.{is_none_true}
use Rattle.script_words.specs.Marks.{behind_mark}
use Rattle.script_words.proofs.ContentLemmas.{mark_found}
use Rattle.journal_reading.specs.Forms.{Form, Row, row_in, by_rows, row}
use Rattle.journal_reading.proofs.FormLemmas.{IsForm, row_gives, first_reads, later_reads}

abbrev pub row_at : {A : Type 0} → List (Row A) → ℕ → Option (Row A)
row_at [] k = None
row_at (r ∷ rows) zero = Some r
row_at (r ∷ rows) (suc k) = row_at rows k

-- none of the first rows reads this text
abbrev pub none_before : {A : Type 0} → List ℕ → List (Row A) → ℕ → Bool
none_before bytes [] k = true
none_before bytes (r ∷ rows) zero = true
none_before bytes (r ∷ rows) (suc k) = is_none (row_in bytes r) && none_before bytes rows k

some_row : {A : Type 0} (a b : Row A) → Some a ≡ Some b → a ≡ b
some_row a b e = cc

no_row : {A : Type 0} (a : Row A) → None ≡ Some a → ⊥
no_row a e = cc

pub reads_at : {A X : Type 0} (rows : List (Row A)) (k : ℕ) (bytes mark : List ℕ) (form : Form X) (made : X → A) → IsForm form → (x : X) → form.ok x → mark ++ form.text x ≡ bytes
    → row_at rows k ≡ Some (row mark form made) → none_before bytes rows k ≡ true → by_rows rows bytes ≡ Some (made x)
reads_at {A} {X} [] k bytes mark form made is x ok spelled at none = absurd (no_row (row mark form made) at)
reads_at {A} {X} (r ∷ rows) zero bytes mark form made is x ok spelled at none =
    first_reads r rows bytes (made x)
    (subst (λ (q : Row A). row_in bytes q ≡ Some (made x)) (sym (some_row r (row mark form made) at)) (row_gives mark form made is x ok bytes spelled))
reads_at {A} {X} (r ∷ rows) (suc k) bytes mark form made is x ok spelled at none =
    let both = and_parts (is_none (row_in bytes r)) (none_before bytes rows k) none in
    later_reads r rows bytes (made x) (is_none_true (row_in bytes r) both.0) (reads_at rows k bytes mark form made is x ok spelled at both.1)

-- a row reads nothing, where its mark doesn't stand, or where its form reads nothing behind it
pub none_unmarked : {A X : Type 0} (mark : List ℕ) (form : Form X) (made : X → A) (bytes : List ℕ) → behind_mark mark bytes ≡ None → row_in bytes (row mark form made) ≡ None
none_unmarked mark form made bytes none = rw none refl

pub none_behind : {A X : Type 0} (mark : List ℕ) (form : Form X) (made : X → A) (rest bytes : List ℕ) → mark ++ rest ≡ bytes → form.read rest ≡ None → row_in bytes (row mark form made) ≡ None
none_behind mark form made rest bytes spelled none = rw (← spelled, mark_found, none) refl

pub one_before : {A : Type 0} (o : Option A) → o ≡ None → (is_none o && true) ≡ true
one_before o none = rw none refl
