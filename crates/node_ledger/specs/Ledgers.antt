-- What a ledger is: the store, the branch and the history of a repository, and its next entry (own).
use Rattle.std.specs.Prelude.{◌≡◌, ℕ, ◌+◌, Bool, false, ◌&&◌, List, [], ◌∷◌, ◌++◌, slice_get, bytes_eq, Option, Some, None}
use Rattle.std.specs.Option.{ForSome, unwrap_or}
use Rattle.object_store.specs.Stores.{Files as StoredFiles, bytes_of}
use Rattle.union_merge.specs.Branch.{Files, lines_at}
use Rattle.union_merge.specs.LineSet.{text_of}
use Rattle.hash_dirs.specs.LogPath.{location_path}
use Rattle.run_data.specs.Files.{file_path}
use Rattle.run_data.specs.declared.entry.Entry.{Entry}
use Rattle.run_data.specs.declared.entry.EntryKind.{EntryKind}
use Rattle.run_data.specs.declared.entry.EntryKind.TheVariants.{Fault, Log}
use Rattle.run_data.specs.declared.entry.LogFile.{LogFile}
use Rattle.node_model.specs.Clocks.{ClockSet}
use Rattle.node_model.specs.OwedLines.{OwedLine, if_new, owed_without, same_lines, status_line}
use Rattle.node_past.specs.declared.setup.Setup.{Setup}
use Rattle.node_past.specs.declared.setup.Ended.{Ended}
use Rattle.node_past.specs.Owing.{rest_if}

-- ---- a ledger

-- A repository: its store, its branch, its history and the lines that it owes, and what stands beside these.
pub record Repository (K P : Type 0) : Type 0 where
  pub setup : Setup
  pub keeper : K  -- its store
  pub parts : P  -- what stands beside: of a node its rows, ends, sessions and jobs, of a ledger nothing
  pub branch : Files
  pub time : ℕ  -- of the script, in milliseconds, and the count of its last entry, or a greater one
  pub count : ℕ
  pub clock : ClockSet  -- which times locks: when it was set last, and to what
  pub history : List Entry  -- its entries, the oldest first
  pub outcomes : List Ended  -- of its jobs that have ended, in the order of their ends
  pub owed : List OwedLine  -- the lines that it owes its branch, in the order in which it pays them

-- a ledger is one with nothing beside
abbrev pub LedgerView : Type 0 → Type 0
LedgerView K = Repository K (Unit {0})

-- the store has the lines of each file as a text, where it tells
abbrev pub HasFiles : Option StoredFiles → Files → Type 0
HasFiles known branch = ForSome known (λ files. (path : List ℕ) → bytes_of files path ≡ text_of (lines_at branch path))

-- ---- the lines that it owes

-- the identifier of a repository of the run, as it knows it
abbrev pub id_known : {K P : Type 0} → Repository K P → ℕ → List ℕ
id_known n repo = unwrap_or (slice_get n.setup.repos repo) []

-- what the key's location log lacks of the line that says whether the repository has the content, at its wall clock
abbrev pub due_by : {K P : Type 0} → Repository K P → List ℕ → ℕ → Bool → List (List ℕ)
due_by n key repo there =
    let has = lines_at n.branch (location_path key) in if_new has (status_line has (id_known n repo) there (n.time + n.setup.offset))

-- whether new lines of the file of this path are just those that a line is due
abbrev pub is_due : {K P : Type 0} → Repository K P → List ℕ → List (List ℕ) → OwedLine → Bool
is_due n path lines o = bytes_eq path (location_path o.key) && same_lines lines (due_by n o.key o.repo o.there)

-- whether those of a file are those of the first of these owed lines
abbrev pub are_due : {K P : Type 0} → Repository K P → LogFile → List (List ℕ) → List OwedLine → Bool
are_due n file lines [] = false
are_due n file lines (o ∷ os) = is_due n (file_path file) lines o

-- the lines that it owes after its next entry: who writes what the first is due pays it, and a job or a peer that fails to leaves it
abbrev pub owed_now : {K P : Type 0} → Repository K P → EntryKind → List (List ℕ) → List OwedLine
owed_now n (Log file) lines = rest_if (are_due n file lines n.owed) n.owed
owed_now n (Fault call by) lines = owed_without call by n.owed
owed_now n kind lines = n.owed

-- ---- its next entry

-- its next entry, where it takes no frame and sends none
abbrev pub next_entry : {K P : Type 0} → Repository K P → EntryKind → List (List ℕ) → Entry
next_entry n kind lines = record { time = n.time; count = n.count + 1; repo = Some n.setup.number; kind = kind; taken = None; sent = []; lines = lines }

-- the repository after this entry, over a store that changed, with this branch
abbrev pub with_entry : {K P : Type 0} → Repository K P → K → Files → EntryKind → List (List ℕ) → Repository K P
with_entry n keeper branch kind lines = record n {
  keeper = keeper;
  branch = branch;
  count = n.count + 1;
  history = n.history ++ next_entry n kind lines ∷ [];
  owed = owed_now n kind lines;
}
