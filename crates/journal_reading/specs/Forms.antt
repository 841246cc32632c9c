-- Forms: how a value is written, how it is read, and which values may be written so (own).
use Rattle.std.specs.Prelude.{◌≡◌, ℕ, ◌≤◌, Bool, true, ◌==◌, List, [], ◌∷◌, ◌++◌, Option, Some, None, bytes_eq, codes, if◌then◌else◌}
use Rattle.std.specs.List.{find}
use Rattle.std.specs.Option.{option_map}
use Rattle.std.specs.Fmt.{decimal}
use Rattle.annex_base.specs.OptionSteps.{◌>>=◌, first_some}
use Rattle.annex_base.specs.Lists.{Each}
use Rattle.run_text.specs.Words.{joined_text}
use Rattle.script_words.specs.Marks.{behind_mark}
use Rattle.script_words.specs.Numbers.{number_up_to}

-- a value's text, the value of a text, and which values have one
pub record Form (A : Type 0) : Type 1 where
  pub text : A → List ℕ
  pub read : List ℕ → Option A
  pub ok : A → Type 0

-- ---- words

-- a number up to this one
abbrev pub number : ℕ → Form ℕ
number greatest = record { text = decimal; read = number_up_to greatest; ok = λ n. n ≤ greatest }

-- a word for each value
abbrev pub one_of : {A : Type 0} → (A → List ℕ) → List A → Form A
one_of text all = record { text = text; read = λ word. find (λ x. bytes_eq (text x) word) all; ok = λ x. Unit {0} }

-- a text that passes a test
abbrev pub passing : (List ℕ → Bool) → Form (List ℕ)
passing test = record { text = λ word. word; read = λ word. if test word then Some word else None; ok = λ word. test word ≡ true }

-- nothing
abbrev pub nothing : Form Unit
nothing = record { text = λ x. []; read = λ bytes. if bytes_eq [] bytes then Some tt else None; ok = λ x. Unit {0} }

-- a dash where there is none
abbrev pub or_dash_text : {A : Type 0} → (A → List ℕ) → Option A → List ℕ
or_dash_text text None = codes "-"
or_dash_text text (Some x) = text x

abbrev pub IfThere : {A : Type 0} → (A → Type 0) → Option A → Type 0
IfThere P None = Unit {0}
IfThere P (Some x) = P x

abbrev pub or_dash : {A : Type 0} → Form A → Form (Option A)
or_dash form = record {
  text = or_dash_text form.text;
  read = λ word. if bytes_eq (codes "-") word then Some None else option_map Some (form.read word);
  ok = IfThere form.ok;
}

-- ---- what follows

-- the bytes before the first byte of this kind, and those behind it
abbrev pub onto : ℕ → List ℕ × List ℕ → List ℕ × List ℕ
onto b x = (b ∷ x.0, x.1)

abbrev pub cut : ℕ → List ℕ → Option (List ℕ × List ℕ)
cut b [] = None
cut b (x ∷ xs) = if x == b then Some ([], xs) else option_map (onto x) (cut b xs)

-- a mark, and then a form
abbrev pub behind : {A : Type 0} → List ℕ → Form A → Form A
behind mark form = record { text = λ x. mark ++ form.text x; read = λ bytes. behind_mark mark bytes >>= form.read; ok = form.ok }

-- a word up to a byte, and then a form that may depend on what it says
abbrev pub up_to : {A B : Type 0} → ℕ → Form A → (A → Form B) → Form (A × B)
up_to b first next = record {
  text = λ x. first.text x.0 ++ b ∷ (next x.0).text x.1;
  read = λ bytes. cut b bytes >>= λ parts. first.read parts.0 >>= λ a. (next a).read parts.1 >>= λ y. Some (a, y);
  ok = λ x. first.ok x.0 × (next x.0).ok x.1;
}

-- ---- lists with a byte between

abbrev pub items_in : {A : Type 0} → (List ℕ → Option A) → List (List ℕ) → Option (List A)
items_in read [] = Some []
items_in read (word ∷ words) = read word >>= λ x. items_in read words >>= λ xs. Some (x ∷ xs)

-- the parts of a text between bytes of this kind
abbrev pub in_front : ℕ → List (List ℕ) → List (List ℕ)
in_front x [] = (x ∷ []) ∷ []
in_front x (part ∷ parts) = (x ∷ part) ∷ parts

abbrev pub parts_of : ℕ → List ℕ → List (List ℕ)
parts_of b [] = [] ∷ []
parts_of b (x ∷ xs) = if x == b then [] ∷ parts_of b xs else in_front x (parts_of b xs)

-- items with a byte between them, or a dash
abbrev pub joined : {A : Type 0} → ℕ → Form A → Form (List A)
joined between form = record {
  text = joined_text between form.text;
  read = λ word. if bytes_eq (codes "-") word then Some [] else items_in form.read (parts_of between word);
  ok = Each form.ok;
}

-- ---- tables: a row for each kind of value

-- the mark that a text of this kind begins with, and what stands behind it
pub record Row (A : Type 0) : Type 0 where
  pub mark : List ℕ
  pub read : List ℕ → Option A

abbrev pub row_in : {A : Type 0} → List ℕ → Row A → Option A
row_in bytes row = behind_mark row.mark bytes >>= row.read

-- the value by the first row that reads the text
abbrev pub by_rows : {A : Type 0} → List (Row A) → List ℕ → Option A
by_rows rows bytes = first_some (row_in bytes) rows

-- the row of a form, whose values are made so
abbrev pub row : {A X : Type 0} → List ℕ → Form X → (X → A) → Row A
row mark form made = record { mark = mark; read = λ bytes. option_map made (form.read bytes) }

-- a table as a form
abbrev pub table : {A : Type 0} → (A → List ℕ) → List (Row A) → (A → Type 0) → Form A
table text rows ok = record { text = text; read = by_rows rows; ok = ok }

-- values of a form that pass a test
abbrev pub tested : {A : Type 0} → (A → Bool) → Form A → Form A
tested test form = record {
  text = form.text;
  read = λ bytes. form.read bytes >>= λ x. if test x then Some x else None;
  ok = λ x. form.ok x × (test x ≡ true);
}
