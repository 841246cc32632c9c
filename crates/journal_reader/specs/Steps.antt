-- For private contracts: the reading of a journal, line by line.
use Rattle.std.specs.Prelude.{ℕ, ◌-◌, ◌&&◌, nat_le, List, [], ◌∷◌, length, slice_get, Option, Some, None, codes, if◌then◌else◌}
use Rattle.annex_base.specs.OptionSteps.{◌>>=◌}
use Rattle.annex_key.specs.Tree.{Entries}
use Rattle.run_data.specs.declared.entry.Entry.{Entry}
use Rattle.run_data.specs.declared.entry.FrameView.{FrameView}
use Rattle.run_data.specs.declared.run.RepoView.{RepoView}
use Rattle.run_data.specs.declared.run.TreeMark.{TreeMark}
use Rattle.journal_reading.specs.Lines.{head_form, frame_form, may_follow, repo_form, is_new, path_form}
use Rattle.journal_reading.specs.Reading.{Saying, ◌>>>◌, one, lines_of, taken_in, frames_behind}
use Rattle.journal_reading.specs.Reading.Saying.{Said, Outside}

-- the lines of a text
abbrev pub lines_in : List ℕ → List (List ℕ)
lines_in text = (lines_of text).0

-- the first line, and those of the text behind it
abbrev pub lines_by : Option (List ℕ × List ℕ) → List (List ℕ)
lines_by None = []
lines_by (Some x) = x.0 ∷ lines_in x.1

-- what was read before these lines, or that they begin with a bad one
abbrev pub said : {A : Type 0} → Option A → List (List ℕ) → Saying A
said None lines = Outside lines
said (Some x) lines = Said x lines

-- the last item
abbrev pub last_of : {A : Type 0} → List A → Option A
last_of xs = slice_get xs (length xs - 1)

-- ---- the next line of a kind, and the lines behind it

abbrev pub sent_behind : Option FrameView → List (List ℕ) → FrameView → Option (FrameView × List (List ℕ))
sent_behind last lines f = if may_follow last f then Some (f, lines) else None

abbrev pub next_sent : List RepoView → Option FrameView → List (List ℕ) → Option (FrameView × List (List ℕ))
next_sent repos last [] = None
next_sent repos last (line ∷ lines) = (frame_form repos (codes "> ")).read line >>= sent_behind last lines

abbrev pub repo_behind : List RepoView → List (List ℕ) → RepoView → Option (RepoView × List (List ℕ))
repo_behind repos lines x = if is_new repos x then Some (x, lines) else None

abbrev pub next_repo : List RepoView → List (List ℕ) → Option (RepoView × List (List ℕ))
next_repo repos [] = None
next_repo repos (line ∷ lines) = repo_form.read line >>= repo_behind repos lines

abbrev pub mark_behind : ℕ → ℕ → List (List ℕ) → TreeMark → Option (TreeMark × List (List ℕ))
mark_behind last most lines m = if nat_le last m.place && nat_le m.place most then Some (m, lines) else None

abbrev pub next_mark : ℕ → ℕ → List (List ℕ) → Option (TreeMark × List (List ℕ))
next_mark last most [] = None
next_mark last most (line ∷ lines) = path_form.read line >>= mark_behind last most lines

-- ---- an entry, by the tree at its place

abbrev pub entry_by : List RepoView → Entries → List Entry → List (List ℕ) → Saying Entry
entry_by repos tree past lines = one (head_form repos tree past).read lines >>> λ h rest. frames_behind repos h (taken_in repos rest)
