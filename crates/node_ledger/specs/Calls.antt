-- Which calls of its store a call of a ledger makes that writes files, and what it has done by then (own).
use Rattle.std.specs.Prelude.{◌≡◌, ℕ, Bool, true, nat_lt, List, ◌∷◌, ◌++◌, length, Option, None}
use Rattle.std.specs.List.{list_any}
use Rattle.std.specs.Map.{keys_of}
use Rattle.annex_base.specs.declared.kinds.Call.{Call}
use Rattle.run_data.specs.Files.{file_of, file_path}
use Rattle.run_data.specs.Histories.{most_entries}
use Rattle.run_data.specs.declared.entry.LogFile.{LogFile}
use Rattle.union_merge.specs.Branch.{Files, lines_at}
use Rattle.union_merge.specs.LineSet.{difference}
use Rattle.content_lock.specs.CallsMade.{MakesCalls}
use Rattle.node_ledger.specs.Walks.{current, over}
use Rattle.node_ledger.specs.Ledgers.{Repository}
use Rattle.node_past.specs.Calls.{to_write}

-- the file lacks one of these lines
abbrev pub lacks_some : {K P : Type 0} → Repository K P → LogFile → List (List ℕ) → Bool
lacks_some n file lines = nat_lt 0 (length (difference lines (lines_at n.branch (file_path file))))

-- a compaction takes a line of the file away
abbrev pub shrinks : {K P : Type 0} → Repository K P → LogFile → Bool
shrinks n file = nat_lt (length (current n file)) (length (lines_at n.branch (file_path file)))

-- the calls that add these lines to a file
abbrev pub to_log : {K P : Type 0} → Repository K P → LogFile → List (List ℕ) → List Call
to_log n file lines = to_write (lacks_some n file lines)

-- the calls that merge these files
abbrev pub to_merge : {K P : Type 0} → Repository K P → Files → List Call
to_merge n files = to_write (list_any (λ f. lacks_some n (file_of f.0) f.1) files)

-- the calls that compact the repository's files
abbrev pub to_compact : {K P : Type 0} → Repository K P → List Call
to_compact n = to_write (list_any (λ path. shrinks n (file_of path)) (keys_of n.branch))

-- ---- a full history, file by file

-- the file of this path and with these lines lacks some of them
abbrev pub lacks_of : {K P : Type 0} → Repository K P → List ℕ × List (List ℕ) → Bool
lacks_of n f = lacks_some n (file_of f.0) f.1

-- a compaction takes a line of the file of this path away
abbrev pub shrinks_at : {K P : Type 0} → Repository K P → List ℕ → Bool
shrinks_at n path = shrinks n (file_of path)

-- A walk over these, of which those that pass the test are written, met a full history: it has gone over some of them, by calls
-- that went well, and the next one was to be written.
pub record MeetsFull {K P X : Type 0} (done_with : List X → Repository K P) (test : Repository K P → X → Bool) (all : List X) (failing failing' : Option (Call → ℕ)) (was now : Repository K P) : Type 0 where
  pub done : List X
  pub next : X
  pub left : List X
  pub whole : all ≡ done ++ next ∷ left
  pub calls : MakesCalls (to_write (list_any (test was) done)) None failing failing'
  pub node : now ≡ over now.keeper (done_with done)
  pub full : length now.history ≡ most_entries
  pub writes : test now next ≡ true
