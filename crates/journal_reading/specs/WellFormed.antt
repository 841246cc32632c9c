-- Well-formed runs, and what a journal that is read says of them (own).
use Rattle.std.specs.Prelude.{◌≡◌, ◌↔◌, ℕ, ◌≤◌, ◌<◌, ◌+◌, ◌-◌, true, List, [], ◌∷◌, ◌++◌, length, take, Option, Some, None}
use Rattle.std.specs.List.{flat_map}
use Rattle.annex_base.specs.Lists.{Each}
use Rattle.annex_base.specs.Lines.{newline}
use Rattle.run_data.specs.declared.run.Run.{Run}
use Rattle.run_data.specs.declared.run.RepoView.{RepoView}
use Rattle.run_data.specs.declared.run.TreeMark.{TreeMark}
use Rattle.run_data.specs.declared.entry.Entry.{Entry}
use Rattle.run_data.specs.declared.entry.FrameView.{FrameView}
use Rattle.journal_text.specs.Journal.{journal}
use Rattle.journal_reading.specs.Forms.{IfThere}
use Rattle.journal_reading.specs.Kinds.{IsKindOf, MayAdd}
use Rattle.journal_reading.specs.Lines.{IsFrame, may_follow, line_may_follow, is_added, IsRepo, is_new, IsChange, tree_at}
use Rattle.journal_reading.specs.Reading.{journal_in, lines_of}
use Rattle.journal_reading.specs.Reading.Reading.{Journal, BadJournal}

-- no repository has the name of an earlier one
abbrev pub AreNew : List RepoView → List RepoView → Type 0
AreNew before [] = Unit {0}
AreNew before (x ∷ xs) = (is_new before x ≡ true) × AreNew (before ++ x ∷ []) xs

-- a change of the tree not before this place, and not behind the last entry
pub record IsMark (last most : ℕ) (mark : TreeMark) : Type 0 where
  pub in_order : last ≤ mark.place
  pub within : mark.place ≤ most
  pub change : IsChange mark

abbrev pub AreMarks : ℕ → ℕ → List TreeMark → Type 0
AreMarks last most [] = Unit {0}
AreMarks last most (m ∷ marks) = IsMark last most m × AreMarks m.place most marks

-- frames in order of the peer's number, of side, slot, epoch and number
abbrev pub AreSent : List RepoView → Option FrameView → List FrameView → Type 0
AreSent repos last [] = Unit {0}
AreSent repos last (f ∷ fs) = IsFrame repos f × (may_follow last f ≡ true) × AreSent repos (Some f) fs

-- lines that aren't empty and have no newline, in byte order
abbrev pub AreAdded : Option (List ℕ) → List (List ℕ) → Type 0
AreAdded last [] = Unit {0}
AreAdded last (line ∷ lines) = (is_added line ≡ true) × (line_may_follow last line ≡ true) × AreAdded (Some line) lines

pub record IsEntry (repos : List RepoView) (marks : List TreeMark) (before : ℕ) (e : Entry) : Type 0 where
  pub time : e.time ≤ 18446744073709551615
  pub count : e.count ≤ 18446744073709551615
  pub repo : IfThere (λ r. r < length repos) e.repo
  pub kind : IsKindOf repos (tree_at marks before) e.repo e.kind
  pub adds : MayAdd e.kind (length e.lines)
  pub taken : IfThere (IsFrame repos) e.taken
  pub sent : AreSent repos None e.sent
  pub lines : AreAdded None e.lines

abbrev pub AreEntries : List RepoView → List TreeMark → ℕ → List Entry → Type 0
AreEntries repos marks before [] = Unit {0}
AreEntries repos marks before (e ∷ es) = IsEntry repos marks before e × AreEntries repos marks (before + 1) es

pub record IsWellFormedRun (run : Run) : Type 0 where
  pub repos : Each IsRepo run.repos
  pub distinct : AreNew [] run.repos
  pub count : length run.entries ≤ 18446744073709551615
  pub tree : AreMarks 0 (length run.entries) run.tree
  pub entries : AreEntries run.repos run.tree 0 run.entries

-- ---- the laws

-- a journal says nothing of the marks of a run's commands
abbrev pub unmarked : Run → Run
unmarked run = record run { marks = [] }

abbrev pub JournalsAreRead : Type 0
JournalsAreRead = (run : Run) → IsWellFormedRun run → journal_in (journal run) ≡ Journal (unmarked run)

-- the journal of this run, which is well formed and has no marks
abbrev pub IsJournal : List ℕ → Run → Type 0
IsJournal bytes run = IsWellFormedRun run × (journal run ≡ bytes) × (run.marks ≡ [])

abbrev pub TextsReadAsTheirRuns : Type 0
TextsReadAsTheirRuns = (bytes : List ℕ) (run : Run) → (journal_in bytes ≡ Journal run) ↔ IsJournal bytes run

abbrev pub JournalsDiffer : Type 0
JournalsDiffer = (run other : Run) → IsWellFormedRun run → IsWellFormedRun other → journal run ≡ journal other → unmarked run ≡ unmarked other

-- the text of these lines
abbrev pub text_of_lines : List (List ℕ) → List ℕ
text_of_lines lines = flat_map (λ line. line ++ newline ∷ []) lines

-- some well-formed run's journal begins with these lines
abbrev pub Begins : List (List ℕ) → Type 0
Begins lines = (run : Run) × IsWellFormedRun run × (rest : List ℕ) × (journal run ≡ text_of_lines lines ++ rest)

-- the lines before the bad one begin a journal; with it, where it ends with a newline, they begin none
abbrev pub BadLinesAreFirst : Type 0
BadLinesAreFirst = (bytes : List ℕ) (n : ℕ) → journal_in bytes ≡ BadJournal n
    → (1 ≤ n) × (n ≤ length (lines_of bytes).0 + 1) × Begins (take (n - 1) (lines_of bytes).0)
    × (n ≤ length (lines_of bytes).0 → Begins (take n (lines_of bytes).0) → ⊥)
