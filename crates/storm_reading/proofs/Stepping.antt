-- Steps of a line, each of which reads the word that stands next.
use Rattle.std.proofs.Common.{◌≡◌, ℕ, zero, suc, ◌+◌, ◌<◌, true, List, [], ◌∷◌, ◌++◌, length, get_or, drop, Option, Some, None, Result, Ok, refl, sym, ap, ◌∙◌, arith, drop-drop}
use Rattle.std.specs.Prelude.{◌==◌, ◌↔◌, nat_lt, not}
use Rattle.std.specs.List.{list_all}
use Rattle.std.specs.Str.{is_utf8}
use Rattle.std.proofs.lemmas.Bool.{and_parts, not-true}
use Rattle.std.proofs.lemmas.Bool.Decides.{nat_tests}
use Rattle.std.proofs.lemmas.List.{drop_at}
use Rattle.std.proofs.lemmas.Str.{IsUtf8-from_ascii, is_utf8-from_IsUtf8}
use Rattle.annex_base.specs.Lines.{is_not_newline, is_not_space, is_space}
use Rattle.annex_base.proofs.Lists.{list_all_weaker}
use Rattle.script_forms.specs.declared.fault.LineFault.{LineFault}
use Rattle.script_forms.specs.Steps.{end_at, option_at, saying_at, word_at}
use Rattle.script_words.specs.Places.{Cursor, LineWord}
use Rattle.script_words.specs.Spelling.{IsBlank, IsNext, Spells}
use Rattle.script_words.specs.Spelling.Spells.{Plain}
use Rattle.script_words.specs.Words.{is_break, next_word, quote}
use Rattle.script_words.specs.declared.words.NextWord.TheVariants.{NoWord, Word}
use Rattle.storm_reading.proofs.Writing.{is_plain, is_visible}

-- the laws of words
pub record WordLaws : Type 0 where
  pub word : (line : List ℕ) (place : ℕ) (word : LineWord) → (next_word line place ≡ Word word) ↔ IsNext line place word
  pub none : (line : List ℕ) (place : ℕ) → (next_word line place ≡ NoWord) ↔ IsBlank line place

-- ---- plain words

visible_no_space : (b : ℕ) → is_visible b ≡ true → is_not_space b ≡ true
visible_no_space b e = let both = and_parts (nat_lt 32 b) (nat_lt b 128) e in let low = both.0 in grind (arith, nat_tests)

visible_no_newline : (b : ℕ) → is_visible b ≡ true → is_not_newline b ≡ true
visible_no_newline b e = let both = and_parts (nat_lt 32 b) (nat_lt b 128) e in let low = both.0 in grind (arith, nat_tests)

visible_ascii : (b : ℕ) → is_visible b ≡ true → b < 128
visible_ascii b e = let both = and_parts (nat_lt 32 b) (nat_lt b 128) e in let high = both.1 in grind (arith, nat_tests)

all_ascii : (word : List ℕ) → list_all is_visible word ≡ true → (i : ℕ) → get_or word i 0 < 128
all_ascii [] e i = omega arith
all_ascii (b ∷ bs) e zero = visible_ascii b (and_parts (is_visible b) (list_all is_visible bs) e).0
all_ascii (b ∷ bs) e (suc i) = all_ascii bs (and_parts (is_visible b) (list_all is_visible bs) e).1 i

pub plain_visible : (word : List ℕ) → is_plain word ≡ true → list_all is_visible word ≡ true
plain_visible [] e = refl
plain_visible (b ∷ bs) e = (and_parts (not (b == quote)) (list_all is_visible (b ∷ bs)) e).1

pub plain_utf8 : (word : List ℕ) → is_plain word ≡ true → is_utf8 word ≡ true
plain_utf8 word e = is_utf8-from_IsUtf8 word (IsUtf8-from_ascii word (all_ascii word (plain_visible word e)))

pub plain_one_line : (word : List ℕ) → is_plain word ≡ true → list_all is_not_newline word ≡ true
plain_one_line word e = list_all_weaker is_visible is_not_newline visible_no_newline word (plain_visible word e)

plain_spells : (word : List ℕ) → is_plain word ≡ true → Spells word word
plain_spells [] e = absurd cc
plain_spells (b ∷ bs) e =
    let both = and_parts (not (b == quote)) (list_all is_visible (b ∷ bs)) e in
    Plain (b ∷ bs) (λ none. let other : b ∷ bs ≡ [] = none in absurd cc) (not-true (b == quote) both.0) (list_all_weaker is_visible is_not_space visible_no_space (b ∷ bs) both.1)

-- ---- words that stand next

-- the word behind these spaces
abbrev pub found : Cursor → List ℕ → List ℕ → LineWord
found at spaces word = record { place = at.place + length spaces; text = word; after = (at.place + length spaces) + length word }

-- these spaces, the word and the rest stand behind the cursor
pub record Stands (at : Cursor) (spaces word rest : List ℕ) : Type 0 where
  pub goes_on : drop at.place at.line ≡ spaces ++ (word ++ rest)
  pub blank : list_all is_space spaces ≡ true
  pub plain : is_plain word ≡ true
  pub ends : is_break rest ≡ true

module _ (laws : WordLaws) (at : Cursor) where
  pub next_is : (spaces word rest : List ℕ) → Stands at spaces word rest → next_word at.line at.place ≡ Word (found at spaces word)
  next_is spaces word rest s = (laws.word at.line at.place (found at spaces word)).1 (record {
    spaces = spaces;
    spelled = word;
    rest = rest;
    goes_on = s.goes_on;
    spaces_are = s.blank;
    spelling = plain_spells word s.plain;
    utf8 = plain_utf8 word s.plain;
    ends = s.ends;
    begins_at = refl;
    ends_at = refl;
  })

  pub rest_is : (spaces word rest : List ℕ) → Stands at spaces word rest → drop ((at.place + length spaces) + length word) at.line ≡ rest
  rest_is spaces word rest s =
      sym (drop-drop (length word) (at.place + length spaces) at.line)
      ∙ ap (drop (length word)) (sym (drop-drop (length spaces) at.place at.line) ∙ ap (drop (length spaces)) s.goes_on ∙ drop_at spaces (word ++ rest) (length spaces) refl)
      ∙ drop_at word rest (length word) refl

-- the step gives x, and the rest stands behind it
pub record Reads {A : Type 0} (given : Result (A × Cursor) LineFault) (x : A) (rest : List ℕ) : Type 0 where
  pub after : Cursor
  pub gives : given ≡ Ok (x, after)
  pub behind : drop after.place after.line ≡ rest

-- the step that needs no word gives x
pub record Takes {A : Type 0} (given : A × Cursor) (x : A) (rest : List ℕ) : Type 0 where
  pub after : Cursor
  pub gives : given ≡ (x, after)
  pub behind : drop after.place after.line ≡ rest

pub reads : WordLaws → {A : Type 0} (says : List ℕ → Option A) (at : Cursor) (spaces word rest : List ℕ) (x : A) → Stands at spaces word rest → says word ≡ Some x
    → Reads (saying_at says at) x rest
unfolding word_at
reads laws says at spaces word rest x s said = record {
  after = record { line = at.line; place = (at.place + length spaces) + length word };
  gives = rw (next_is laws at spaces word rest s, said) refl;
  behind = rest_is laws at spaces word rest s;
}

pub takes : WordLaws → {A : Type 0} (says : List ℕ → Option A) (at : Cursor) (spaces word rest : List ℕ) (x : A) → Stands at spaces word rest → says word ≡ Some x
    → Takes (option_at says at) (Some x) rest
takes laws says at spaces word rest x s said = record {
  after = record { line = at.line; place = (at.place + length spaces) + length word };
  gives = rw (next_is laws at spaces word rest s, said) refl;
  behind = rest_is laws at spaces word rest s;
}

none_next : WordLaws → (at : Cursor) → drop at.place at.line ≡ [] → next_word at.line at.place ≡ NoWord
none_next laws at e = (laws.none at.line at.place).1 (ap (list_all is_space) e)

pub ended : WordLaws → (at : Cursor) → drop at.place at.line ≡ [] → end_at at ≡ Ok tt
unfolding end_at
ended laws at e = rw (none_next laws at e) refl

pub nothing_taken : WordLaws → {A : Type 0} (says : List ℕ → Option A) (at : Cursor) → drop at.place at.line ≡ [] → option_at says at ≡ (None, at)
nothing_taken laws says at e = rw (none_next laws at e) refl

-- a word that says something else
pub not_taken : WordLaws → {A : Type 0} (says : List ℕ → Option A) (at : Cursor) (spaces word rest : List ℕ) → Stands at spaces word rest → says word ≡ None → option_at says at ≡ (None, at)
not_taken laws says at spaces word rest s none = rw (next_is laws at spaces word rest s, none) refl
