-- What a node is: a repository of a run that knows its own state and nothing else (own).
use Rattle.std.specs.Prelude.{◌≡◌, ℕ, List, map, reverse, Option, Some, None}
use Rattle.std.specs.Option.{ForSome}
use Rattle.object_store.specs.Stores.{Contents, Parts}
use Rattle.content_lock.specs.Rows.{bar_at, is_filling}
use Rattle.node_parts.specs.Parts.{AreParts, HasContents, PartsView}
use Rattle.union_merge.specs.Branch.{Files, lines_at}
use Rattle.run_data.specs.Repos.{offset_of}
use Rattle.run_data.specs.declared.entry.Entry.{Entry}
use Rattle.node_model.specs.SetUp.{SetUp, version_of, gives_locks}
use Rattle.node_model.specs.State.{State}
use Rattle.node_model.specs.OwedLines.{OwedLine}
use Rattle.node_model.specs.After.{states}
use Rattle.node_model.specs.SessionStep.{is_filled}
use Rattle.node_past.specs.declared.setup.Setup.{Setup}
use Rattle.node_ledger.specs.Ledgers.{LedgerView, Repository}
pub use Rattle.node_ledger.specs.Ledgers.{HasFiles, are_due, due_by, id_known, is_due, next_entry, owed_now, with_entry}

-- ---- a node

-- a ledger, and its rows, ends, sessions and jobs beside it
abbrev pub NodeView : Type 0 → Type 0
NodeView K = Repository K PartsView

-- the node of this ledger, with these parts beside it
abbrev pub beside : {K : Type 0} → PartsView → LedgerView K → NodeView K
beside parts l = record {
  setup = l.setup;
  keeper = l.keeper;
  parts = parts;
  branch = l.branch;
  time = l.time;
  count = l.count;
  clock = l.clock;
  history = l.history;
  outcomes = l.outcomes;
  owed = l.owed;
}

-- ---- the state that a history leaves

-- the repository is set up as the node knows it; what it doesn't know of the others may be anything
pub record MatchesSetup (setup : Setup) (s : SetUp) : Type 0 where
  pub number : s.number ≡ setup.number
  pub ids : map (λ repo. repo.id) s.repos ≡ setup.repos
  pub offset : offset_of s.repos s.number ≡ setup.offset
  pub version : version_of s ≡ setup.version
  pub locks : gives_locks s ≡ setup.locks

-- after these entries of its own, the oldest first
abbrev pub state_of : SetUp → List Entry → State
state_of s history = states s (reverse history)

-- what a store tells of its contents, where it tells its parts as well
abbrev pub told_of : Option Contents → Option Parts → Option Contents
told_of contents None = None
told_of contents (Some parts) = contents

-- a node's parts, the lines that it owes and these contents are those of a state, and so are the keys that its table fills
pub record IsStateOfParts (s : SetUp) (parts : PartsView) (owed : List OwedLine) (c : Contents) (st : State) : Type 0 where
  pub parts_are : AreParts s st parts
  pub fills : (key : List ℕ) → is_filling parts.table key ≡ is_filled s st key
  pub stored : HasContents c st
  pub owed_are : st.owed ≡ owed

-- Rows and a branch are those of a state; and where the store tells, so is all that the node has.
pub record IsState (s : SetUp) (parts : PartsView) (branch : Files) (owed : List OwedLine) (told : Option Contents) (st : State) : Type 0 where
  pub holds : parts.table.holds ≡ st.holds
  pub bars : (key : List ℕ) → bar_at parts.table key ≡ st.bar key
  pub lines : (path : List ℕ) → lines_at branch path ≡ st.lines path
  pub stands : ForSome told (λ c. IsStateOfParts s parts owed c st)
