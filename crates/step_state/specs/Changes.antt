-- What an entry changes of a repository's jobs and of what belongs to them; for private contracts (own).
use Rattle.std.specs.Prelude.{◌≡◌, ℕ, List}
use Rattle.run_data.specs.declared.entry.Entry.{Entry}
use Rattle.node_model.specs.Clocks.{wall}
use Rattle.node_model.specs.SetUp.{SetUp}
use Rattle.node_model.specs.State.{State}
use Rattle.state_files.specs.Files.{AreFilesOf}
use Rattle.state_files.specs.declared.files.Files.{Files}
use Rattle.state_works.specs.Jobs as of_works
use Rattle.state_works.specs.Jobs.{works_of}
use Rattle.state_reads.specs.Reads.{HadPaths, IsChangeFor}
use Rattle.state_owed.specs.Changes as of_owed
use Rattle.state_owed.specs.Changes.{AddsWithin}
use Rattle.step_state.specs.Places.{IsPlaceOf, count_in}
use Rattle.step_state.specs.Working.{AreWorkingOf}
use Rattle.step_state.specs.declared.place.Place.{Place}
use Rattle.step_state.specs.declared.working.Working.{Working}
use Rattle.step_state.specs.declared.working.WorkingChange.{WorkingChange}

-- by this state before it the entry changes so what jobs have read, and what is owed
pub record IsSoFor (s : SetUp) (st : State) (e : Entry) (change : WorkingChange) : Type 0 where
  pub kept : IsChangeFor s st e.kind change.kept
  pub owed : of_owed.IsChangeOf s st e change.owed

-- it is what the entry changes, where the repository has these files and is about this, and its job's key has these paths
pub record IsReadyFor (p : Place) (files : Files) (paths : List (List ℕ)) (e : Entry) (x : Working) (change : WorkingChange) : Type 0 where
  pub jobs : of_works.IsChangeOf (works_of x.jobs) e change.jobs
  pub within : AddsWithin (count_in p) change.owed
  pub so : (s : SetUp) (st : State) → IsPlaceOf p s → HadPaths s e.kind paths → st.wall ≡ wall s.repos s.number → AreFilesOf files st → AreWorkingOf x s st → IsSoFor s st e change
