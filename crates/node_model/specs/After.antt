-- The state of a repository after one entry of its own, by the state before it and the entry alone.
use Rattle.std.specs.Prelude.{ℕ, ◌+◌, Bool, true, false, if◌then◌else◌, ◌==◌, List, [], ◌∷◌, find, Option, Some, None, ◌≡◌}
use Rattle.annex_base.specs.Settings.{Settings}
use Rattle.trust_groups.specs.Settings.{settings}
use Rattle.run_data.specs.declared.entry.Entry.{Entry}
use Rattle.run_data.specs.declared.entry.EntryKind.{EntryKind}
use Rattle.run_data.specs.declared.entry.EntryKind.TheVariants.{Crash}
use Rattle.run_data.specs.Repos.{offset_of}
use Rattle.node_model.specs.Rows.{bar_after, holds_after, present_after, content_after}
use Rattle.node_model.specs.Slots.{begun_after}
use Rattle.node_model.specs.Clocks.{runs_on, wall}
use Rattle.node_model.specs.Files.{lines_after}
use Rattle.node_model.specs.Around.{around}
use Rattle.node_model.specs.SetUp.{SetUp}
use Rattle.node_model.specs.Ends.{end_after, never, sent_at, taken_at}
use Rattle.node_model.specs.Sessions.{new_session, session_after}
use Rattle.node_model.specs.Jobs.{Drops, Fresh, Part, Phase, Work, works_after}
use Rattle.node_model.specs.OwedLines.{owed_after}
use Rattle.node_model.specs.State.{State}
use Rattle.annex_base.specs.Lists.{Member}

-- ---- logs

-- a drop that is past its first step has read the logs
abbrev pub has_read : Part → Phase → Bool
has_read Drops Fresh = false
has_read Drops phase = true
has_read part phase = false

-- what it read stays what it was; any other job would read what the logs say now. No first step of a drop changes the logs
abbrev pub read_after : Settings → Settings → Option Work → Settings
read_after logs was None = logs
read_after logs was (Some w) = if has_read w.part w.phase then was else logs

-- ---- clocks

-- a crash sets the clock to the number that it names, at this time
abbrev pub clock_after : (ℕ → ℕ) → ℕ → EntryKind → ℕ → ℕ
clock_after was time (Crash clock) = runs_on (record { at = time; to = clock })
clock_after was time _ = was

-- ---- the state

-- before the first entry
abbrev pub first_state : SetUp → State
first_state s = record {
  clock = runs_on (record { at = 0; to = offset_of s.repos s.number });
  wall = wall s.repos s.number;
  made = 0;
  begun = 0;
  present = λ key. false;
  bar = λ key. None;
  content = λ key. None;
  holds = [];
  ends = λ a. never;
  sessions = λ a. new_session;
  works = [];
  owed = [];
  lines = λ path. [];
  logs = settings (λ path. []);
  read = λ j. settings (λ path. []);
}

-- after an entry
abbrev pub state_after : SetUp → State → Entry → State
state_after s st e =
    let lines : List ℕ → List (List ℕ) = (λ path. lines_after path (st.lines path) e.kind e.lines) in
    record {
      clock = clock_after st.clock e.time e.kind;
      wall = st.wall;
      made = st.made + 1;
      begun = begun_after st.begun e.kind;
      present = λ key. present_after key (st.present key) e.kind;
      bar = λ key. bar_after key (st.bar key) e.kind;
      content = λ key. content_after key (st.content key) e.kind;
      holds = holds_after st.holds e.kind;
      ends = λ a. end_after a (st.ends a) e;
      sessions = λ a. session_after st.content e.kind (st.sessions a) (sent_at a e.sent) (taken_at a e.taken);
      works = works_after (around s st) s.number st.works e e.kind;
      owed = owed_after s.repos st.lines (st.wall e.time) st.works s.number st.owed e e.kind;
      lines = lines;
      logs = settings lines;
      read = λ j. read_after (settings lines) (st.read j) (find (λ w. w.number == j) st.works);
    }

-- after these entries of its own, the newest first
abbrev pub states : SetUp → List Entry → State
states s [] = first_state s
states s (e ∷ past) = state_after s (states s past) e

-- ---- states that agree

-- one state has what the other has, but for what jobs have read that aren't at a drop
pub record AgreesAtDrops (st other : State) : Type 0 where
  pub same : st ≡ record other { read = st.read }
  pub reads : (w : Work) → Member w st.works → w.part ≡ Drops → st.read w.number ≡ other.read w.number
