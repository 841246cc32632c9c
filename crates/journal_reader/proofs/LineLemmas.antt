-- The lines of a text, one after the other.
use Rattle.std.proofs.Common.{◌≡◌, inl, inr, ℕ, true, false, ◌==◌, List, [], ◌∷◌, Option, Some, None, refl, sym, ap, subst, ◌∙◌}
use Rattle.std.specs.Option.{option_map}
use Rattle.std.proofs.lemmas.Bool.Decides.{eqb_tells}
use Rattle.annex_base.specs.Lines.{newline}
use Rattle.annex_base.proofs.Options.{map_some, some_where, none_and_some}
use Rattle.journal_reading.specs.Forms.{onto, cut}
use Rattle.journal_reading.specs.Reading.{with_byte, with_line, lines_of}
use Rattle.journal_reader.specs.Steps.{lines_in, lines_by}

-- a line before others
abbrev pub line_first : List ℕ → List (List ℕ) × List ℕ → List (List ℕ) × List ℕ
line_first line x = (line ∷ x.0, x.1)

lines-here : (b : ℕ) (bytes : List ℕ) → (b == newline) ≡ true → lines_of (b ∷ bytes) ≡ with_line (lines_of bytes)
lines-here b bytes is = rw is refl

lines-later : (b : ℕ) (bytes : List ℕ) → (b == newline) ≡ false → lines_of (b ∷ bytes) ≡ with_byte b (lines_of bytes)
lines-later b bytes other = rw other refl

cut-here : (b : ℕ) (bytes : List ℕ) → (b == newline) ≡ true → cut newline (b ∷ bytes) ≡ Some ([], bytes)
cut-here b bytes is = rw is refl

cut-later : (b : ℕ) (bytes : List ℕ) → (b == newline) ≡ false → cut newline (b ∷ bytes) ≡ option_map (onto b) (cut newline bytes)
cut-later b bytes other = rw other refl

map_none : {A B : Type 0} (o : Option A) (f : A → B) → option_map f o ≡ None → o ≡ None
map_none None f e = refl
map_none (Some x) f e = absurd cc

-- the first line, and those behind it
pub lines_cut : (bytes : List ℕ) (x : List ℕ × List ℕ) → cut newline bytes ≡ Some x → lines_of bytes ≡ line_first x.0 (lines_of x.1)
lines_cut [] x e = absurd cc
lines_cut (b ∷ bytes) x e = elim (some_where (b == newline) ([], bytes) x (option_map (onto b) (cut newline bytes)) e) [
  | inl here ↦ subst (λ p. lines_of (b ∷ bytes) ≡ line_first p.0 (lines_of p.1)) here.1 (lines-here b bytes here.0)
  | inr later ↦
      let h = map_some (cut newline bytes) (onto b) x later.1 in
      subst (λ p. lines_of (b ∷ bytes) ≡ line_first p.0 (lines_of p.1)) h.2 (lines-later b bytes later.0 ∙ ap (with_byte b) (lines_cut bytes h.0 h.1))
]

-- no line ends
pub lines_whole : (bytes : List ℕ) → cut newline bytes ≡ None → lines_of bytes ≡ ([], bytes)
lines_whole [] none = refl
lines_whole (b ∷ bytes) none = elim (eqb_tells b newline) [
  | inl here ↦ absurd (none_and_some (cut newline (b ∷ bytes)) ([], bytes) none (cut-here b bytes here.0))
  | inr other ↦
      let e : cut newline bytes ≡ None = map_none (cut newline bytes) (onto b) (sym (cut-later b bytes other.0) ∙ none) in
      lines-later b bytes other.0 ∙ ap (with_byte b) (lines_whole bytes e)
]

-- the lines by the first of them
pub lines_are : (text : List ℕ) (o : Option (List ℕ × List ℕ)) → o ≡ cut newline text → lines_in text ≡ lines_by o
lines_are text None e = ap (λ (x : List (List ℕ) × List ℕ). x.0) (lines_whole text (sym e))
lines_are text (Some x) e = ap (λ (x : List (List ℕ) × List ℕ). x.0) (lines_cut text x (sym e))
