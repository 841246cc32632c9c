-- What a text says as a journal (own): the run, or the first line that is outside the format.
use Rattle.std.specs.Prelude.{ℕ, zero, suc, ◌+◌, ◌-◌, ◌==◌, ◌&&◌, nat_le, List, [], ◌∷◌, ◌++◌, length, Option, Some, None, codes, if◌then◌else◌}
use Rattle.annex_base.specs.Lines.{newline}
use Rattle.annex_base.specs.OptionSteps.{◌>>=◌}
use Rattle.run_data.specs.declared.run.Run.{Run}
use Rattle.run_data.specs.declared.run.RepoView.{RepoView}
use Rattle.run_data.specs.declared.run.TreeMark.{TreeMark}
use Rattle.run_data.specs.declared.entry.Entry.{Entry}
use Rattle.run_data.specs.declared.entry.FrameView.{FrameView}
use Rattle.journal_reading.specs.Forms.{behind}
use Rattle.journal_reading.specs.Fields.{large}
use Rattle.journal_reading.specs.Lines.{Head, head_form, frame_form, may_follow, line_may_follow, added_form, repo_form, is_new, path_form, tree_at}

-- ---- lines

abbrev pub with_byte : ℕ → List (List ℕ) × List ℕ → List (List ℕ) × List ℕ
with_byte b ([], rest) = ([], b ∷ rest)
with_byte b (line ∷ lines, rest) = ((b ∷ line) ∷ lines, rest)

abbrev pub with_line : List (List ℕ) × List ℕ → List (List ℕ) × List ℕ
with_line x = ([] ∷ x.0, x.1)

-- the lines that end with a newline, and what stands behind the last of them
abbrev pub lines_of : List ℕ → List (List ℕ) × List ℕ
lines_of [] = ([], [])
lines_of (b ∷ bytes) = if b == newline then with_line (lines_of bytes) else with_byte b (lines_of bytes)

-- what lines say, with the lines behind them; or the lines from the first one on that is outside
pub data Saying (A : Type 0) : Type 0 where
  Said : A → List (List ℕ) → Saying A
  Outside : List (List ℕ) → Saying A

infixl 10 ◌>>>◌
abbrev pub ◌>>>◌ : {A B : Type 0} → Saying A → (A → List (List ℕ) → Saying B) → Saying B
Said x lines >>> next = next x lines
Outside lines >>> next = Outside lines

abbrev pub said_or : {A : Type 0} → List (List ℕ) → List (List ℕ) → Option A → Saying A
said_or all rest None = Outside all
said_or all rest (Some x) = Said x rest

-- one line
abbrev pub one : {A : Type 0} → (List ℕ → Option A) → List (List ℕ) → Saying A
one read [] = Outside []
one read (line ∷ lines) = said_or (line ∷ lines) lines (read line)

-- ---- entries

abbrev pub taken_by : Option FrameView → List ℕ → List (List ℕ) → Option FrameView × List (List ℕ)
taken_by None line lines = (None, line ∷ lines)
taken_by (Some f) line lines = (Some f, lines)

-- at most one frame that was taken
abbrev pub taken_in : List RepoView → List (List ℕ) → Option FrameView × List (List ℕ)
taken_in repos [] = (None, [])
taken_in repos (line ∷ lines) = taken_by ((frame_form repos (codes "< ")).read line) line lines

abbrev pub sent_by : Option FrameView → Option FrameView → List ℕ → List (List ℕ) → (Option FrameView → List FrameView × List (List ℕ)) → List FrameView × List (List ℕ)
sent_by last None line lines more = ([], line ∷ lines)
sent_by last (Some f) line lines more = if may_follow last f then (f ∷ (more (Some f)).0, (more (Some f)).1) else ([], line ∷ lines)

-- frames that were sent, in their order, each behind the last one
abbrev pub sent_in : List RepoView → Option FrameView → List (List ℕ) → List FrameView × List (List ℕ)
sent_in repos last [] = ([], [])
sent_in repos last (line ∷ lines) = sent_by last ((frame_form repos (codes "> ")).read line) line lines (λ f. sent_in repos f lines)

abbrev pub if_follows : Option (List ℕ) → List ℕ → Option (List ℕ)
if_follows last line = if line_may_follow last line then Some line else None

abbrev pub next_added : Option (List ℕ) → List ℕ → Option (List ℕ)
next_added last line = added_form.read line >>= if_follows last

-- so many lines, in their order
abbrev pub added_in : ℕ → Option (List ℕ) → List (List ℕ) → Saying (List (List ℕ))
added_in zero last lines = Said [] lines
added_in (suc n) last lines = one (next_added last) lines >>> λ x rest. added_in n (Some x) rest >>> λ xs rest. Said (x ∷ xs) rest

abbrev pub an_entry : Head → Option FrameView → List FrameView → List (List ℕ) → Entry
an_entry h taken sent lines = record { time = h.0; count = h.1.0; repo = h.1.1.0; kind = h.1.1.1.0; taken = taken; sent = sent; lines = lines }

abbrev pub entry_behind : List RepoView → Head → (Option FrameView × List (List ℕ)) → (List FrameView × List (List ℕ)) → Saying Entry
entry_behind repos h taken sent = added_in h.1.1.1.1 None sent.1 >>> λ lines rest. Said (an_entry h taken.0 sent.0 lines) rest

abbrev pub frames_behind : List RepoView → Head → (Option FrameView × List (List ℕ)) → Saying Entry
frames_behind repos h taken = entry_behind repos h taken (sent_in repos None taken.1)

-- an entry after these others (the newest first)
abbrev pub entry_in : List RepoView → List TreeMark → List Entry → List (List ℕ) → Saying Entry
entry_in repos marks past lines = one (head_form repos (tree_at marks (length past)) past).read lines >>> λ h rest. frames_behind repos h (taken_in repos rest)

abbrev pub entries_in : ℕ → List RepoView → List TreeMark → List Entry → List (List ℕ) → Saying (List Entry)
entries_in zero repos marks past lines = Said [] lines
entries_in (suc n) repos marks past lines = entry_in repos marks past lines >>> λ e rest. entries_in n repos marks (e ∷ past) rest >>> λ es rest. Said (e ∷ es) rest

-- ---- what stands before the entries

abbrev pub repo_by : List RepoView → Option RepoView → List ℕ → List (List ℕ) → (List RepoView → List RepoView × List (List ℕ)) → List RepoView × List (List ℕ)
repo_by repos None line lines more = (repos, line ∷ lines)
repo_by repos (Some x) line lines more = if is_new repos x then more (repos ++ x ∷ []) else (repos, line ∷ lines)

-- repositories, behind these others
abbrev pub repos_in : List RepoView → List (List ℕ) → List RepoView × List (List ℕ)
repos_in repos [] = (repos, [])
repos_in repos (line ∷ lines) = repo_by repos (repo_form.read line) line lines (λ more. repos_in more lines)

abbrev pub mark_by : ℕ → ℕ → Option TreeMark → List ℕ → List (List ℕ) → (ℕ → List TreeMark × List (List ℕ)) → List TreeMark × List (List ℕ)
mark_by last most None line lines more = ([], line ∷ lines)
mark_by last most (Some m) line lines more = if nat_le last m.place && nat_le m.place most then (m ∷ (more m.place).0, (more m.place).1) else ([], line ∷ lines)

-- changes of the tree, at places from the last one on, up to the number of entries
abbrev pub marks_in : ℕ → ℕ → List (List ℕ) → List TreeMark × List (List ℕ)
marks_in last most [] = ([], [])
marks_in last most (line ∷ lines) = mark_by last most (path_form.read line) line lines (λ place. marks_in place most lines)

abbrev pub header : List ℕ → Option ℕ
header line = (behind (codes "journal ") large).read line

abbrev pub a_run : List RepoView → List TreeMark → List Entry → Run
a_run repos tree entries = record { repos = repos; entries = entries; tree = tree; marks = [] }

abbrev pub run_behind : ℕ → List RepoView → List TreeMark × List (List ℕ) → Saying Run
run_behind n repos marks = entries_in n repos marks.0 [] marks.1 >>> λ entries rest. Said (a_run repos marks.0 entries) rest

abbrev pub marks_behind : ℕ → List RepoView × List (List ℕ) → Saying Run
marks_behind n repos = run_behind n repos.0 (marks_in 0 n repos.1)

abbrev pub run_in : List (List ℕ) → Saying Run
run_in lines = one header lines >>> λ n rest. marks_behind n (repos_in [] rest)

-- ---- the whole

-- a run; or the first line outside the format, from 1, or the number after the last one where a line is missing
pub data Reading : Type 0 where
  Journal : Run → Reading
  BadJournal : ℕ → Reading

-- the number of the line with which these lines begin, of so many
abbrev pub line_number : ℕ → List (List ℕ) → ℕ
line_number count rest = count - length rest + 1

abbrev pub ended : ℕ → List ℕ → Saying Run → Reading
ended count [] (Said run []) = Journal run
ended count (b ∷ rest) (Said run []) = BadJournal (count + 1)
ended count tail (Said run (line ∷ lines)) = BadJournal (line_number count (line ∷ lines))
ended count tail (Outside lines) = BadJournal (line_number count lines)

abbrev pub reading_of : List (List ℕ) × List ℕ → Reading
reading_of lines = ended (length lines.0) lines.1 (run_in lines.0)

-- what a text says as a journal
unfoldable pub journal_in : List ℕ → Reading
journal_in bytes = reading_of (lines_of bytes)
