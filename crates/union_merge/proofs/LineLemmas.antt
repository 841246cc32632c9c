-- The lines of a text.
use Rattle.std.proofs.Common.{◌≡◌, ◌≢◌, ◌↔◌, Bool, IsTrue, ◌||◌, length, inl, inr, ℕ, List, [], ◌∷◌, true, false, filter, not, refl, sym, ap, ◌∙◌, append_assoc, All}
use Rattle.std.specs.Bool.{◌==◌}
use Rattle.std.specs.List.{list_any, slice_split, AllByRecursion}
use Rattle.std.proofs.lemmas.Bool.{true≢false}
use Rattle.std.proofs.lemmas.Bool.Decides.{eqb_tells}
use Rattle.std.proofs.lemmas.List.Elements.{All-from_recursion}
use Rattle.std.proofs.lemmas.List.Splits.{slice_split_at}
use Rattle.annex_base.specs.Lists.{Member, Each}
use Rattle.annex_base.specs.Lines.{newline, IsOneLine}
use Rattle.annex_base.proofs.Lines.{one_line-members, one_line-split}
use Rattle.union_merge.specs.LineSet.{IsLine, IsLineSet, union, is_empty, lines_in, set_of, text_of}
use Rattle.union_merge.proofs.SetLemmas.{Lines, union-nil}

line_of : (part : List ℕ) → IsOneLine part → not (is_empty part) ≡ true → IsLine part
line_of [] one none = absurd (true≢false (sym none))
line_of (b ∷ bs) one some = record { some = λ e. cc; single = one_line-members (b ∷ bs) one }

filter_lines : (parts : Lines) → Each IsOneLine parts → Each IsLine (filter (λ line. not (is_empty line)) parts)
filter_lines [] all = tt
filter_lines ([] ∷ parts) all = filter_lines parts all.1
filter_lines ((b ∷ bs) ∷ parts) all = (line_of (b ∷ bs) all.0 refl, filter_lines parts all.1)

pub lines_in-lines : (text : List ℕ) → Each IsLine (lines_in text)
lines_in-lines text = filter_lines (slice_split (λ b. b == newline) text) (one_line-split text)

-- ---- the lines of a text of lines

all_other : (line : List ℕ) → (Member newline line → ⊥) → All (λ b. (b == newline) ≡ false) line
all_other line single = All-from_recursion (λ b. (b == newline) ≡ false) line (each_other line single) where
  each_other : (line : List ℕ) → (Member newline line → ⊥) → AllByRecursion (λ b. (b == newline) ≡ false) line
  each_other [] single = tt
  each_other (b ∷ bs) single = (elim (eqb_tells b newline) [ inl same ↦ absurd (single (inl (sym same.1))) | inr other ↦ other.0 ], each_other bs (λ among. single (inr among)))

kept : (line : List ℕ) (rest : Lines) → IsLine line → filter (λ l. not (is_empty l)) (line ∷ rest) ≡ line ∷ filter (λ l. not (is_empty l)) rest
kept [] rest is = absurd (is.some refl)
kept (b ∷ bs) rest is = refl

pub lines_in-text_of : (lines : Lines) → Each IsLine lines → lines_in (text_of lines) ≡ lines
lines_in-text_of [] all = refl
lines_in-text_of (line ∷ lines) all =
    ap lines_in (append_assoc line (newline ∷ []) (text_of lines))
    ∙ ap (filter (λ l. not (is_empty l))) (slice_split_at (λ b. b == newline) line newline (text_of lines) (all_other line all.0.single) refl)
    ∙ kept line (slice_split (λ b. b == newline) (text_of lines)) all.0
    ∙ ap (λ (w : Lines). line ∷ w) (lines_in-text_of lines all.1)

-- reading back what was printed
pub set_of-text_of : (lines : Lines) → IsLineSet lines → set_of (text_of lines) ≡ lines
set_of-text_of lines is = ap (union []) (lines_in-text_of lines is.each) ∙ union-nil lines is.sorted

-- ---- whether a text is a line

newline_at : (text : List ℕ) → list_any (λ b. b == newline) text ≡ true → Member newline text
newline_at [] any = cc
newline_at (b ∷ bs) any = elim (eqb_tells b newline) [
  | inl same ↦ inl (sym same.1)
  | inr other ↦ inr (newline_at bs (sym (ap (λ t. t || list_any (λ x. x == newline) bs) other.0) ∙ any))
]

at_newline : (text : List ℕ) → Member newline text → list_any (λ b. b == newline) text ≡ true
at_newline [] among = absurd among
at_newline (b ∷ bs) among = elim (eqb_tells b newline) [
  | inl same ↦ rw same.0 refl
  | inr other ↦ ap (λ t. t || list_any (λ x. x == newline) bs) other.0 ∙ at_newline bs (elim among [ inl same ↦ absurd (other.1 (sym same)) | inr later ↦ later ])
]

some_bytes : (text : List ℕ) → (length text == 0) ≡ false → text ≢ []
some_bytes text some none = true≢false (sym (ap (λ t. length t == 0) none) ∙ some)

pub line_test : (text : List ℕ) (has : Bool) → false ≡ (length text == 0) → has ≡ list_any (λ b. b == newline) text → IsTrue (not has) ↔ IsLine text
line_test text true some is = (λ holds. absurd (true≢false (sym holds)), λ line. absurd (line.single (newline_at text (sym is))))
line_test text false some is = (
  λ _. record { some = some_bytes text (sym some); single = λ among. true≢false (sym (at_newline text among) ∙ sym is) },
  λ _. refl,
)
