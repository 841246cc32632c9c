-- No call that writes files takes an entry of a node away.
use Rattle.std.proofs.Common.{◌≡◌, ℕ, Bool, true, false, List, [], ◌∷◌, Ok, Err, length, refl, sym, subst}
use Rattle.std.specs.Prelude.{IfErr, OnOk, if◌then◌else◌, nat_lt}
use Rattle.std.specs.Map.{keys_of}
use Rattle.run_data.specs.declared.entry.EntryKind.TheVariants.{Compact, Log}
use Rattle.run_data.specs.declared.entry.LogFile.{LogFile}
use Rattle.run_data.specs.Files.{file_of, file_path}
use Rattle.union_merge.specs.Branch.{lines_at, merged_file, with_file}
use Rattle.union_merge.specs.LineSet.{difference}
use Rattle.fleet_entries.specs.Logs.{with_lines, with_log}
use Rattle.fleet_entries.specs.Nodes.{NodeView, with_entry}
use Rattle.fleet_entries.specs.Refusals.{RefusesSo}
use Rattle.fleet_entries.specs.Walks.{StopsAfter, compact_file, compact_files, current, merge_file, merge_files, over}
use Rattle.annex_base.specs.declared.kinds.Call.TheVariants as calls
use Rattle.fleet_entries.proofs.Ended.{Answer}
use Rattle.fleet_entries.proofs.Growing.{Grows, entry_grows, grows_as, grows_on, refusal_grows}

-- ---- files

log_grows : {K : Type 0} (n : NodeView K) (keeper : K) (file : LogFile) (lines : List (List ℕ)) → Grows n (with_log n keeper file lines)
log_grows n keeper file [] = grows_as n n refl
log_grows n keeper file (line ∷ lines) = entry_grows n keeper (merged_file n.branch (file_path file) (line ∷ lines)) (Log file) (line ∷ lines)

lines_grow : {K : Type 0} (n : NodeView K) (keeper : K) (file : LogFile) (lines : List (List ℕ)) → Grows n (with_lines n keeper file lines)
lines_grow n keeper file lines = log_grows n keeper file (difference lines (lines_at n.branch (file_path file)))

pub write_grows : {K : Type 0} (done : Answer) (n m : NodeView K) (file : LogFile) (lines : List (List ℕ)) → OnOk done (m ≡ with_lines n m.keeper file lines) → IfErr done (λ e. RefusesSo e calls.PutFile n m) → Grows n m
write_grows (Ok x) n m file lines ok err = subst (λ x. Grows n x) (sym ok) (lines_grow n m.keeper file lines)
write_grows (Err e) n m file lines ok err = refusal_grows e calls.PutFile n m err

merged_grow : {K : Type 0} (n : NodeView K) (files : List (List ℕ × List (List ℕ))) → Grows n (merge_files n files)
merged_grow n [] = grows_as n n refl
merged_grow n (f ∷ files) = grows_on n (merge_file n f) (merge_files (merge_file n f) files) (lines_grow n n.keeper (file_of f.0) f.1) (merged_grow (merge_file n f) files)

shrunk_grows : {K : Type 0} (n : NodeView K) (file : LogFile) → Grows n (compact_file n file)
shrunk_grows {K} n file = go (nat_lt (length (current n file)) (length (lines_at n.branch (file_path file))))
  where
    go : (b : Bool) → Grows n (if b then with_entry n n.keeper (with_file n.branch (file_path file) (current n file)) (Compact file) [] else n)
    go true = entry_grows n n.keeper (with_file n.branch (file_path file) (current n file)) (Compact file) []
    go false = grows_as n n refl

compacted_grow : {K : Type 0} (n : NodeView K) (paths : List (List ℕ)) → Grows n (compact_files n paths)
compacted_grow n [] = grows_as n n refl
compacted_grow n (path ∷ paths) = grows_on n (compact_file n (file_of path)) (compact_files (compact_file n (file_of path)) paths) (shrunk_grows n (file_of path)) (compacted_grow (compact_file n (file_of path)) paths)

walk_grows : {K X : Type 0} (done : Answer) (n m : NodeView K) (done_with : List X → NodeView K) (all : List X) → ((xs : List X) → Grows n (done_with xs)) → OnOk done (m ≡ over m.keeper (done_with all))
    → IfErr done (λ e. StopsAfter done_with all e m) → Grows n m
walk_grows (Ok x) n m done_with all grows ok err = subst (λ x. Grows n x) (sym ok) (grows all)
walk_grows (Err e) n m done_with all grows ok err = grows_on n (over err.keeper (done_with err.done)) m (grows err.done) (refusal_grows e calls.PutFile (over err.keeper (done_with err.done)) m err.refused)

pub merge_grows : {K : Type 0} (done : Answer) (n m : NodeView K) (files : List (List ℕ × List (List ℕ))) → OnOk done (m ≡ over m.keeper (merge_files n files)) → IfErr done (λ e. StopsAfter (merge_files n) files e m) → Grows n m
merge_grows done n m files = walk_grows done n m (merge_files n) files (merged_grow n)

pub compact_grows : {K : Type 0} (done : Answer) (n m : NodeView K) → OnOk done (m ≡ over m.keeper (compact_files n (keys_of n.branch))) → IfErr done (λ e. StopsAfter (compact_files n) (keys_of n.branch) e m) → Grows n m
compact_grows done n m = walk_grows done n m (compact_files n) (keys_of n.branch) (compacted_grow n)
