-- The state of a repository after the entries so far: each part is a function of the repository's own entries.
use Rattle.std.specs.Prelude.{ℕ, if◌then◌else◌, List, [], ◌∷◌, Option, None}
use Rattle.run_data.specs.declared.entry.Entry.{Entry}
use Rattle.run_model.specs.Past.{is_of, bar, present, begun_count, clock, holds, entry_count}
use Rattle.node_model.specs.Ends.{EndName, taken_at, sent_at, End, end_after, never}
use Rattle.node_model.specs.Rows.{content_after}
use Rattle.node_model.specs.Sessions.{Session, new_session, session_after}
use Rattle.run_data.specs.declared.run.RepoView.{RepoView}
use Rattle.node_model.specs.Clocks.{wall}
use Rattle.run_model.specs.Logs.{lines_of_file, read_at, settings_of}
use Rattle.node_model.specs.Jobs.{Work, RowsAndEnds, works_after}
use Rattle.node_model.specs.SetUp.{SetUp}
use Rattle.node_model.specs.OwedLines.{OwedLine, owed_after}
use Rattle.node_model.specs.State.{State}

-- how an end of r stands
abbrev pub end_at : List Entry → ℕ → EndName → End
end_at [] r a = never
end_at (e ∷ past) r a = if is_of r e then end_after a (end_at past r a) e else end_at past r a

-- the size of the content of the key at r, if it is there
abbrev pub content : List Entry → ℕ → List ℕ → Option ℕ
content [] r key = None
content (e ∷ past) r key = if is_of r e then content_after key (content past r key) e.kind else content past r key

-- the session at an end of r. While the end isn't open, it is new
abbrev pub session : List Entry → ℕ → EndName → Session
session [] r a = new_session
session (e ∷ past) r a =
    if is_of r e then session_after (content past r) e.kind (session past r a) (sent_at a e.sent) (taken_at a e.taken)
    else session past r a

abbrev pub rows_at : List Entry → ℕ → RowsAndEnds
rows_at past r = record { present = present past r; bar = bar past r; ends = end_at past r }

-- the running jobs of r, the newest first
abbrev pub works : List Entry → ℕ → List Work
works [] r = []
works (e ∷ past) r = if is_of r e then works_after (rows_at past r) r (works past r) e e.kind else works past r

-- the lines that r owes, the first first
abbrev pub owes : List RepoView → List Entry → ℕ → List OwedLine
owes repos [] r = []
owes repos (e ∷ past) r =
    if is_of r e then owed_after repos (lines_of_file past r) (wall repos r e.time) (works past r) r (owes repos past r) e e.kind else owes repos past r

abbrev pub state_of : SetUp → List Entry → State
state_of s past =
    let r = s.number in
    record {
      clock = clock s.repos past r;
      wall = wall s.repos r;
      made = entry_count past r;
      begun = begun_count past r;
      present = present past r;
      bar = bar past r;
      content = content past r;
      holds = holds past r;
      ends = end_at past r;
      sessions = session past r;
      works = works past r;
      owed = owes s.repos past r;
      lines = lines_of_file past r;
      logs = settings_of past r;
      read = λ j. settings_of (read_at past r j) r;
    }
