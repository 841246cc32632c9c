-- The lines of the entries between two places.
use Rattle.std.proofs.Common.{◌≡◌, ◌⊎◌, ℕ, ◌+◌, ◌≤◌, ◌<◌, min, List, [], ◌++◌, length, get_or, take, reverse, Option, Some, refl, sym, ◌∙◌, ap, append_assoc}
use Rattle.std.specs.List.{slice_get}
use Rattle.std.proofs.lemmas.Option.{slice_get-get_or, slice_get_past}
use Rattle.run_data.specs.declared.run.Run.{Run}
use Rattle.run_data.specs.declared.run.RepoView.{RepoView}
use Rattle.run_data.specs.declared.entry.Entry.{Entry}
use Rattle.run_model.specs.Safety.{past_at}
use Rattle.run_model.specs.Syncs.{SyncJobs}
use Rattle.shown_text.specs.Lines.{outcome_lines, entry_line}
use Rattle.shown_text.proofs.Places.{flat_map_place, flat_map_walked}

-- the line of the entry at a place
abbrev line_at : Run → List SyncJobs → ℕ → List ℕ
line_at run syncs place = entry_line run.repos syncs (past_at run place) (slice_get run.entries place)

no_line : (run : Run) (syncs : List SyncJobs) (place : ℕ) → length run.entries ≤ place → line_at run syncs place ≡ []
no_line run syncs place h = rw (slice_get_past run.entries place h) refl

-- the text so far, with the line of one more entry
pub ended_more : (run : Run) (repos : List RepoView) (syncs : List SyncJobs) (entries before : List Entry) (from place : ℕ) (old out new : List ℕ) (e : Entry)
    → repos ≡ run.repos → entries ≡ run.entries → before ≡ take place entries → from ≤ place → place < length entries → e ≡ get_or entries place e
    → out ≡ old ++ outcome_lines run syncs from place → new ≡ out ++ entry_line repos syncs (reverse before) (Some e) → new ≡ old ++ outcome_lines run syncs from (place + 1)
ended_more run repos syncs entries before from place old out new e repos_are entries_are before_is far within at so_far is =
    let inside : place < length run.entries = rw entries_are at within in
    let here : e ≡ get_or run.entries place e = rw entries_are at at in
    let some : slice_get run.entries place ≡ Some e = slice_get-get_or run.entries place e inside ∙ ap Some (sym here) in
    let line : line_at run syncs place ≡ entry_line run.repos syncs (past_at run place) (Some e) = ap (λ (o : Option Entry). entry_line run.repos syncs (past_at run place) o) some in
    (rw (repos_are, before_is, entries_are) at is) ∙ ap (λ (l : List ℕ). l ++ entry_line run.repos syncs (past_at run place) (Some e)) so_far
    ∙ append_assoc old _ _
    ∙ ap (λ (l : List ℕ). old ++ (outcome_lines run syncs from place ++ l)) (sym line)
    ∙ ap (λ (l : List ℕ). old ++ l) (sym (flat_map_place (line_at run syncs) from place far))

-- at the end of the walk it has all
pub ended_all : (run : Run) (syncs : List SyncJobs) (entries : List Entry) (from upto place : ℕ) (old out : List ℕ) → entries ≡ run.entries
    → min upto (length entries) ≤ place → (place ≡ from) ⊎ (place ≤ min upto (length entries))
    → out ≡ old ++ outcome_lines run syncs from place → out ≡ old ++ outcome_lines run syncs from upto
ended_all run syncs entries from upto place old out entries_are far at is =
    let far' : min upto (length run.entries) ≤ place = rw entries_are at far in
    let at' : (place ≡ from) ⊎ (place ≤ min upto (length run.entries)) = rw entries_are at at in
    is ∙ ap (λ (l : List ℕ). old ++ l) (flat_map_walked (line_at run syncs) (length run.entries) (no_line run syncs) from upto place far' at')
