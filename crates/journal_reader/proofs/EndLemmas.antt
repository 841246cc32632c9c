-- How a reading ends.
use Rattle.std.proofs.Common.{◌≡◌, ◌+◌, ℕ, List, [], ◌∷◌, refl, ap, ◌∙◌, sym}
use Rattle.run_data.specs.declared.run.Run.{Run}
use Rattle.journal_reading.specs.Reading.{ended, line_number}
use Rattle.journal_reading.specs.Reading.Saying.{Said, Outside}
use Rattle.journal_reading.specs.Reading.Reading.{Journal, BadJournal}

pub ended_outside : (count : ℕ) (tail : List ℕ) (lines : List (List ℕ)) → ended count tail (Outside lines) ≡ BadJournal (line_number count lines)
ended_outside count [] lines = refl
ended_outside count (b ∷ tail) lines = refl

pub ended_early : (count : ℕ) (tail : List ℕ) (run : Run) (lines : List (List ℕ)) (line : List ℕ) (rest : List (List ℕ)) → lines ≡ line ∷ rest
    → ended count tail (Said run lines) ≡ BadJournal (line_number count lines)
ended_early count tail run lines line rest is =
    ap (λ ls. ended count tail (Said run ls)) is ∙ go tail ∙ ap (λ ls. BadJournal (line_number count ls)) (sym is)
  where
    go : (tail : List ℕ) → ended count tail (Said run (line ∷ rest)) ≡ BadJournal (line_number count (line ∷ rest))
    go [] = refl
    go (b ∷ tail) = refl

pub ended_open : (count : ℕ) (tail : List ℕ) (run : Run) (lines : List (List ℕ)) (b : ℕ) (more : List ℕ) → lines ≡ [] → tail ≡ b ∷ more
    → ended count tail (Said run lines) ≡ BadJournal (count + 1)
ended_open count tail run lines b more none is = ap (λ ls. ended count tail (Said run ls)) none ∙ ap (λ t. ended count t (Said run [])) is

pub ended_whole : (count : ℕ) (tail : List ℕ) (run : Run) (lines : List (List ℕ)) → lines ≡ [] → tail ≡ [] → ended count tail (Said run lines) ≡ Journal run
ended_whole count tail run lines none is = ap (λ ls. ended count tail (Said run ls)) none ∙ ap (λ t. ended count t (Said run [])) is
