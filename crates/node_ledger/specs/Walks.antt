-- What the calls that go over a branch, file by file, make of a repository (own).
use Rattle.std.specs.Prelude.{◌≡◌, ℕ, if◌then◌else◌, List, [], ◌++◌, length, nat_lt}
use Rattle.std.specs.List.{fold}
use Rattle.annex_base.specs.declared.kinds.Call.TheVariants.{PutFile}
use Rattle.run_data.specs.Files.{file_of, file_path, kind_of}
use Rattle.run_data.specs.declared.entry.EntryKind.TheVariants.{Compact}
use Rattle.run_data.specs.declared.entry.LogFile.{LogFile}
use Rattle.branch_bundle.specs.Bundle.{IsBundle}
use Rattle.union_merge.specs.Branch.{Files, lines_at, with_file}
use Rattle.node_model.specs.Files.{compact_lines}
use Rattle.node_ledger.specs.Logs.{with_lines}
use Rattle.node_ledger.specs.Ledgers.{with_entry, Repository}
use Rattle.node_ledger.specs.Refusals.{RefusesSo}
use Rattle.node_past.specs.declared.refused.NodeRefused.{NodeRefused}

-- the repository over this store
abbrev pub over : {K P : Type 0} → K → Repository K P → Repository K P
over keeper n = record n { keeper = keeper }

-- ---- one file

-- the lines of a file without those that are outdated; a file that is no log stays as it is
abbrev pub current : {K P : Type 0} → Repository K P → LogFile → List (List ℕ)
current n file = compact_lines (kind_of file) (lines_at n.branch (file_path file))

-- the repository without the outdated lines of the file, as one entry, where it has some
abbrev pub compact_file : {K P : Type 0} → Repository K P → LogFile → Repository K P
compact_file n file =
    if nat_lt (length (current n file)) (length (lines_at n.branch (file_path file)))
    then with_entry n n.keeper (with_file n.branch (file_path file) (current n file)) (Compact file) []
    else n

-- the repository with those lines of another branch's file that its own lacks
abbrev pub merge_file : {K P : Type 0} → Repository K P → List ℕ × List (List ℕ) → Repository K P
merge_file n f = with_lines n n.keeper (file_of f.0) f.1

-- ---- file by file

-- the repository without the outdated lines of the files of these paths
abbrev pub compact_files : {K P : Type 0} → Repository K P → List (List ℕ) → Repository K P
compact_files n paths = fold (λ m path. compact_file m (file_of path)) n paths

-- the repository with those lines of these files that its own lack
abbrev pub merge_files : {K P : Type 0} → Repository K P → List (List ℕ × List (List ℕ)) → Repository K P
merge_files n files = fold merge_file n files

-- the text is the bundle of a branch
pub record IsOfBundle (text : List ℕ) : Type 0 where
  pub files : Files
  pub is : IsBundle text files

-- A walk over these was refused: some of them are done, over a store that has changed, and what follows was refused.
pub record StopsAfter {K P X : Type 0} (done_with : List X → Repository K P) (all : List X) (e : NodeRefused) (now : Repository K P) : Type 0 where
  pub done : List X
  pub left : List X
  pub whole : all ≡ done ++ left
  pub keeper : K
  pub refused : RefusesSo e PutFile (over keeper (done_with done)) now
