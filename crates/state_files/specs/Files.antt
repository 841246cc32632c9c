-- The log files of one repository as data, and the files of a state that they are (own).
use Rattle.std.specs.Prelude.{◌≡◌, ℕ, List, Some}
use Rattle.trust_groups.specs.Reads.{Indices}
use Rattle.trust_groups.specs.Settings.{settings}
use Rattle.union_merge.specs.Branch.{Files as BranchFiles, lines_at}
use Rattle.node_model.specs.State.{State}
use Rattle.state_files.specs.declared.files.Files.{Files}

abbrev pub branch_of : Files → BranchFiles
branch_of files = files.branch

-- the file of each path has the lines that the state has there, and these set what the state's logs say
pub record AreFilesOf (files : Files) (st : State) : Type 0 where
  pub lines : (path : List ℕ) → st.lines path ≡ lines_at (branch_of files) path
  pub logs : st.logs ≡ settings (lines_at (branch_of files))

-- what the files set was read since they changed
abbrev pub HaveBeenRead : Files → Type 0
HaveBeenRead files = (indices : Indices) × (files.read ≡ Some indices)
