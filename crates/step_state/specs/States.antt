-- The state of a repository as data, and how it is a state of the definitions (own).
use Rattle.std.specs.Prelude.{◌≡◌, ℕ, ◌+◌, List}
use Rattle.run_data.specs.declared.entry.Entry.{Entry}
use Rattle.node_model.specs.Clocks.{runs_on, wall}
use Rattle.node_model.specs.SetUp.{SetUp}
use Rattle.node_model.specs.State.{State}
use Rattle.state_files.specs.Files.{AreFilesOf, branch_of}
use Rattle.state_rows.specs.Rows as of_rows
use Rattle.state_rows.specs.Rows.{AreRowsOf, size_of}
use Rattle.state_sessions.specs.Heard.{IsHeardIn}
use Rattle.state_works.specs.Jobs as of_works
use Rattle.state_works.specs.Jobs.{works_of}
use Rattle.state_reads.specs.Reads.{HadPaths}
use Rattle.state_owed.specs.Changes.{AddsWithin}
use Rattle.step_state.specs.Bounds.{AreBounded}
use Rattle.step_state.specs.Changes.{IsSoFor}
use Rattle.step_state.specs.Counts.{AreCountsOf, clock_in, made_in}
use Rattle.step_state.specs.Links as of_links
use Rattle.step_state.specs.Links.{AreLinksOf}
use Rattle.step_state.specs.Places.{IsPlaceOf, count_in}
use Rattle.step_state.specs.Working as of_working
use Rattle.step_state.specs.Working.{AreWorkingOf}
use Rattle.step_state.specs.declared.state.RepoState.{RepoState}
use Rattle.step_state.specs.declared.state.StateChange.{StateChange}

-- all but the log files are those of the state of a repository with this set-up
pub record ArePartsOf (x : RepoState) (s : SetUp) (st : State) : Type 0 where
  pub place : IsPlaceOf x.place s
  pub wall : st.wall ≡ wall s.repos s.number
  pub counts : AreCountsOf x.counts st
  pub rows : AreRowsOf x.rows st
  pub links : AreLinksOf x.links st
  pub working : AreWorkingOf x.working s st

-- it is the state of the repository with this set-up
pub record IsStateOf (x : RepoState) (s : SetUp) (st : State) : Type 0 where
  pub parts : ArePartsOf x s st
  pub files : AreFilesOf x.files st

-- what its clock says at a time of the script
abbrev pub clock_of : RepoState → ℕ → ℕ
clock_of x = runs_on (clock_in x.counts)

-- how many entries it has made, and how many repositories its run has
abbrev pub made_of : RepoState → ℕ
made_of x = made_in x.counts

abbrev pub count_of : RepoState → ℕ
count_of x = count_in x.place

-- its numbers are within the bounds for so many entries, and its peers are repositories of the run
abbrev pub IsWell : RepoState → Type 0
IsWell x = AreBounded x.place x.counts x.links x.working

-- ---- for private contracts

-- it is what it was, but for the room that it has, and for what it has read of its files
pub record StaysSame (was now : RepoState) : Type 0 where
  pub place : now.place ≡ was.place
  pub counts : now.counts ≡ was.counts
  pub rows : of_rows.StaySame was.rows now.rows
  pub links : of_links.StaySame was.links now.links
  pub working : of_working.StaySame was.working now.working
  pub files : branch_of now.files ≡ branch_of was.files

-- there is room for what an entry adds that sends so many frames
pub record HasRoom (sent : ℕ) (x : RepoState) : Type 0 where
  pub rows : of_rows.HasRoom x.rows
  pub links : of_links.HasRoom (sent + 1) x.links
  pub working : of_working.HasRoom x.working

-- it is what the entry changes of the rows and jobs, and what a session hears by it
pub record IsChangeOf (x : RepoState) (e : Entry) (change : StateChange) : Type 0 where
  pub rows : of_rows.IsChangeOf e.kind change.rows
  pub heard : IsHeardIn (size_of x.rows) e change.heard
  pub jobs : of_works.IsChangeOf (works_of x.working.jobs) e change.working.jobs
  pub within : AddsWithin (count_of x) change.working.owed

-- it is all that the entry changes, where its job's key has these paths
pub record IsReadyFor (x : RepoState) (paths : List (List ℕ)) (e : Entry) (change : StateChange) : Type 0 where
  pub change_is : IsChangeOf x e change
  pub so : (s : SetUp) (st : State) → HadPaths s e.kind paths → IsStateOf x s st → IsSoFor s st e change.working
