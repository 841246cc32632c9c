-- The line of a key's log that says whether a repository has the content, and the entry that writes it (own).
use Rattle.std.specs.Prelude.{◌≡◌, ℕ, Bool, List, ◌∷◌, drop, Option, Some, None, Result, Err}
use Rattle.annex_base.specs.declared.kinds.Call.{Call}
use Rattle.annex_base.specs.declared.kinds.Call.TheVariants.{PutFile}
use Rattle.hash_dirs.specs.LogPath.{location_path}
use Rattle.run_data.specs.declared.entry.EntryKind.TheVariants.{Log}
use Rattle.run_data.specs.declared.entry.LogFile.TheVariants.{Location}
use Rattle.union_merge.specs.Branch.{merged_file}
use Rattle.union_merge.specs.LineSet.{IsLine}
use Rattle.node_model.specs.OwedLines.{OwedLine, owed_line}
use Rattle.node_ledger.specs.Ledgers.{due_by, with_entry, Repository}
use Rattle.node_ledger.specs.declared.owed.Draft.{Draft}
use Rattle.node_ledger.specs.declared.owed.Due.{Due}
use Rattle.node_past.specs.declared.refused.NodeRefused.{NodeRefused}
use Rattle.node_past.specs.declared.refused.NodeRefused.TheVariants as refusals

-- The repository with the line that says whether the repository has the content, as one entry. Where the log has the line, the entry has none.
abbrev pub with_status : {K P : Type 0} → Repository K P → K → List ℕ → ℕ → Bool → Repository K P
with_status n keeper key repo there =
    let new = due_by n key repo there in with_entry n keeper (merged_file n.branch (location_path key) new) (Log (Location key)) new

-- the line that is owed, as the definitions have it
abbrev pub owed_line_of : Due → OwedLine
owed_line_of d = owed_line d.by d.repo d.there d.key.now

-- the draft of the entry that writes this line
pub record IsDraftOf {K P : Type 0} (n : Repository K P) (o : OwedLine) (d : Draft) : Type 0 where
  pub by : d.by ≡ o.by
  pub file : d.file ≡ Location o.key
  pub path : d.path ≡ location_path o.key
  pub line : IsLine d.path
  pub new : d.new ≡ due_by n o.key o.repo o.there

-- that of the first line that is owed
pub record IsFirstDraft {K P : Type 0} (n : Repository K P) (d : Draft) : Type 0 where
  pub owed : OwedLine
  pub first : n.owed ≡ owed ∷ drop 1 n.owed
  pub draft : IsDraftOf n owed d

-- ---- a step

-- the call of the store that failed, where the call of the repository that writes one file was refused so
abbrev pub failed_put : Result (Unit {0}) NodeRefused → Option Call
failed_put (Err refusals.StoreFault) = Some PutFile
failed_put _ = None
