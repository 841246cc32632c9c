-- The lines that an entry added, one after the other.
use Rattle.std.proofs.Common.{◌≡◌, ℕ, suc, List, [], ◌∷◌, ◌++◌, Option, Some, None, sym, ap, ◌∙◌}
use Rattle.journal_reading.specs.Reading.{Saying, ◌>>>◌, said_or, next_added, added_in}
use Rattle.journal_reading.specs.Reading.Saying.{Said, Outside}
use Rattle.journal_reader.specs.Steps.{last_of}
use Rattle.journal_reader.proofs.PushLemmas.{last_push, behind_these, behind_more, behind_end}

abbrev Added : Type 0
Added = Saying (List (List ℕ))

abbrev outside : List (List ℕ) → Added
outside lines = Outside lines

-- the lines by the first of them
abbrev added_by : ℕ → List ℕ → List (List ℕ) → Option (List ℕ) → Added
added_by n line lines o = said_or (line ∷ lines) lines o >>> λ x rest. added_in n (Some x) rest >>> λ xs rest. Said (x ∷ xs) rest

-- so many lines are left, and one of them
at_one : (added : List (List ℕ)) (whole : Added) (left next : ℕ) (line : List ℕ) (lines : List (List ℕ)) (o : Option (List ℕ))
    → left ≡ suc next → whole ≡ behind_these added (added_in left (last_of added) (line ∷ lines)) → next_added (last_of added) line ≡ o
    → whole ≡ behind_these added (added_by next line lines o)
at_one added whole left next line lines o is so_far read =
    so_far ∙ ap (λ n. behind_these added (added_in n (last_of added) (line ∷ lines))) is ∙ ap (λ p. behind_these added (added_by next line lines p)) read

pub added_more : (added : List (List ℕ)) (whole : Added) (left next : ℕ) (line : List ℕ) (lines : List (List ℕ)) (x : List ℕ)
    → left ≡ suc next → whole ≡ behind_these added (added_in left (last_of added) (line ∷ lines)) → next_added (last_of added) line ≡ Some x
    → whole ≡ behind_these (added ++ x ∷ []) (added_in next (last_of (added ++ x ∷ [])) lines)
added_more added whole left next line lines x is so_far read =
    at_one added whole left next line lines (Some x) is so_far read ∙ behind_more added x (added_in next (Some x) lines)
    ∙ ap (λ o. behind_these (added ++ x ∷ []) (added_in next o lines)) (sym (last_push added x))

pub added_bad : (added : List (List ℕ)) (whole : Added) (left next : ℕ) (line : List ℕ) (lines : List (List ℕ))
    → left ≡ suc next → whole ≡ behind_these added (added_in left (last_of added) (line ∷ lines)) → next_added (last_of added) line ≡ None
    → whole ≡ Outside (line ∷ lines)
added_bad added whole left next line lines is so_far read = at_one added whole left next line lines None is so_far read

pub added_missing : (added : List (List ℕ)) (whole : Added) (left next : ℕ)
    → left ≡ suc next → whole ≡ behind_these added (added_in left (last_of added) []) → whole ≡ Outside []
added_missing added whole left next is so_far = so_far ∙ ap (λ n. behind_these added (added_in n (last_of added) [])) is

pub added_end : (added : List (List ℕ)) (whole : Added) (left : ℕ) (lines : List (List ℕ))
    → left ≡ 0 → whole ≡ behind_these added (added_in left (last_of added) lines) → whole ≡ Said added lines
added_end added whole left lines is so_far =
    so_far ∙ ap (λ n. behind_these added (added_in n (last_of added) lines)) is ∙ behind_end added lines

-- the next line is none that may stand there
pub added_stops : (added : List (List ℕ)) (whole : Added) (left next : ℕ) (all : List (List ℕ)) (line : List ℕ) (lines : List (List ℕ))
    → left ≡ suc next → all ≡ line ∷ lines → whole ≡ behind_these added (added_in left (last_of added) all) → next_added (last_of added) line ≡ None
    → Outside all ≡ whole
added_stops added whole left next all line lines is all_is so_far read =
    sym (added_bad added whole left next line lines is (so_far ∙ ap (λ ls. behind_these added (added_in left (last_of added) ls)) all_is) read ∙ ap outside (sym all_is))
