-- The lines of a text, and the law that follows from reading.
use Rattle.std.proofs.Common.{◌≡◌, inl, inr, ℕ, Bool, true, false, not, ◌==◌, List, [], ◌∷◌, ◌++◌, refl, sym, ap, ◌∙◌}
use Rattle.std.proofs.lemmas.Bool.{and_parts, cases_Bool, eqb-true}
use Rattle.std.proofs.Common.{append_assoc}
use Rattle.annex_base.specs.Lines.{newline}
use Rattle.annex_base.specs.Lists.{Each}
use Rattle.run_data.specs.declared.run.Run.{Run}
use Rattle.journal_reading.specs.Reading.{with_byte, lines_of, journal_in}
use Rattle.journal_reading.specs.Reading.Reading.{Journal}
use Rattle.journal_reading.specs.WellFormed.{JournalsAreRead, JournalsDiffer, text_of_lines, unmarked}
use Rattle.journal_reading.proofs.FormLemmas.{lacks, is_other}

other_false : (t : Bool) → not t ≡ true → t ≡ false
other_false true e = absurd cc
other_false false e = refl

-- ---- the lines of a text are those that it was put together of

pub line_first : (line bytes : List ℕ) → lacks newline line ≡ true → lines_of (line ++ newline ∷ bytes) ≡ (line ∷ (lines_of bytes).0, (lines_of bytes).1)
line_first [] bytes none = refl
line_first (b ∷ line) bytes none =
    let both = and_parts (is_other newline b) (lacks newline line) none in
    rw (other_false (b == newline) both.0, line_first line bytes both.1) refl

pub lines_found : (lines : List (List ℕ)) (bytes : List ℕ) → Each (λ line. lacks newline line ≡ true) lines → lines_of bytes ≡ ([], bytes) → lines_of (text_of_lines lines ++ bytes) ≡ (lines, bytes)
lines_found [] bytes each e = e
lines_found (line ∷ lines) bytes each e =
    ap lines_of (append_assoc (line ++ newline ∷ []) (text_of_lines lines) bytes ∙ append_assoc line (newline ∷ []) (text_of_lines lines ++ bytes))
    ∙ line_first line (text_of_lines lines ++ bytes) each.0
    ∙ ap (λ (x : List (List ℕ) × List ℕ). (line ∷ x.0, x.1)) (lines_found lines bytes each.1 e)

joined_byte : (b : ℕ) (bytes : List ℕ) (x : List (List ℕ) × List ℕ) → text_of_lines x.0 ++ x.1 ≡ bytes → text_of_lines (with_byte b x).0 ++ (with_byte b x).1 ≡ b ∷ bytes
joined_byte b bytes ([], rest) e = ap (λ l. b ∷ l) e
joined_byte b bytes (line ∷ lines, rest) e = ap (λ l. b ∷ l) e

pub lines_joined : (bytes : List ℕ) → text_of_lines (lines_of bytes).0 ++ (lines_of bytes).1 ≡ bytes
lines_joined [] = refl
lines_joined (b ∷ bytes) = elim (cases_Bool (b == newline)) [
  | inl ends ↦ rw ends (ap (λ l. newline ∷ l) (lines_joined bytes) ∙ ap (λ c. c ∷ bytes) (sym (eqb-true b newline ends)))
  | inr other ↦ rw other (joined_byte b bytes (lines_of bytes) (lines_joined bytes))
]

-- ---- runs that differ have different journals

same_journal : (run other : Run) → Journal run ≡ Journal other → run ≡ other
same_journal run other e = cc

pub differ : JournalsAreRead → JournalsDiffer
differ read run other is also same =
    same_journal (unmarked run) (unmarked other) (sym (read run is) ∙ ap journal_in same ∙ read other also)
