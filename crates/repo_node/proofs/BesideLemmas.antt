-- What is said of a ledger is said of the node that has parts beside it.
use Rattle.std.proofs.Common.{◌≡◌, ℕ, Bool, true, false, if◌then◌else◌, List, [], ◌∷◌, length, Option, None, Result, Ok, Err, OnOk, IfErr, refl, sym, ap, subst, ◌∙◌}
use Rattle.std.specs.Prelude.{nat_lt}
use Rattle.std.specs.List.{list_any}
use Rattle.content_lock.specs.CallsMade.{MakesCalls}
use Rattle.node_past.specs.Calls.{to_write}
use Rattle.annex_base.specs.declared.kinds.Call.{Call}
use Rattle.annex_base.specs.declared.kinds.Call.TheVariants.{PutFile}
use Rattle.run_data.specs.Files.{file_of, file_path}
use Rattle.run_data.specs.declared.entry.By.TheVariants.{Script}
use Rattle.run_data.specs.declared.entry.EntryKind.TheVariants.{Compact}
use Rattle.run_data.specs.declared.entry.LogFile.{LogFile}
use Rattle.union_merge.specs.Branch.{Files, lines_at, with_file}
use Rattle.union_merge.specs.LineSet.{difference}
use Rattle.node_steps.specs.Parts.{PartsView}
use Rattle.node_past.specs.declared.refused.NodeRefused.{NodeRefused}
use Rattle.node_ledger.specs.Calls.{MeetsFull, lacks_of, shrinks_at}
use Rattle.node_ledger.specs.Ledgers.{LedgerView, with_entry}
use Rattle.node_ledger.specs.Logs.{with_lines, with_log}
use Rattle.node_ledger.specs.Refusals.{RefusesSo}
use Rattle.node_ledger.specs.Walks.{StopsAfter, compact_file, compact_files, current, merge_file, merge_files, over}
use Rattle.node_steps.specs.Nodes.{NodeView, beside}
use Rattle.node_steps.proofs.KeptLemmas.{refuses_beside}
use Rattle.node_ledger.specs.Debts.{with_status}

-- ---- what is done

log_beside : {K : Type 0} (p : PartsView) (l : LedgerView K) (k : K) (file : LogFile) (new : List (List ℕ)) → beside p (with_log l k file new) ≡ with_log (beside p l) k file new
log_beside p l k file [] = refl
log_beside p l k file (line ∷ lines) = refl

pub lines_beside : {K : Type 0} (p : PartsView) (l : LedgerView K) (k : K) (file : LogFile) (lines : List (List ℕ)) → beside p (with_lines l k file lines) ≡ with_lines (beside p l) k file lines
lines_beside p l k file lines = log_beside p l k file (difference lines (lines_at l.branch (file_path file)))

merges_beside : {K : Type 0} (p : PartsView) (l : LedgerView K) (files : List (List ℕ × List (List ℕ))) → beside p (merge_files l files) ≡ merge_files (beside p l) files
merges_beside p l [] = refl
merges_beside {K} p l (f ∷ files) =
    merges_beside p (merge_file l f) files ∙ ap (λ (n : NodeView K). merge_files n files) (lines_beside p l l.keeper (file_of f.0) f.1)

if_beside : {K : Type 0} (b : Bool) (p : PartsView) (l m : LedgerView K) → beside p (if b then m else l) ≡ (if b then beside p m else beside p l)
if_beside true p l m = refl
if_beside false p l m = refl

compact_beside : {K : Type 0} (p : PartsView) (l : LedgerView K) (file : LogFile) → beside p (compact_file l file) ≡ compact_file (beside p l) file
compact_beside p l file =
    if_beside (nat_lt (length (current l file)) (length (lines_at l.branch (file_path file)))) p l (with_entry l l.keeper (with_file l.branch (file_path file) (current l file)) (Compact file) [])

compacts_beside : {K : Type 0} (p : PartsView) (l : LedgerView K) (paths : List (List ℕ)) → beside p (compact_files l paths) ≡ compact_files (beside p l) paths
compacts_beside p l [] = refl
compacts_beside {K} p l (path ∷ paths) =
    compacts_beside p (compact_file l (file_of path)) paths ∙ ap (λ (n : NodeView K). compact_files n paths) (compact_beside p l (file_of path))

-- ---- by the answers of calls

pub ok_lines : {K : Type 0} (r : Result (Unit {0}) NodeRefused) (p : PartsView) (l m : LedgerView K) (file : LogFile) (lines : List (List ℕ)) → OnOk r (m ≡ with_lines l m.keeper file lines) → OnOk r (beside p m ≡ with_lines (beside p l) m.keeper file lines)
ok_lines (Ok x) p l m file lines ok = ap (beside p) ok ∙ lines_beside p l m.keeper file lines
ok_lines (Err e) p l m file lines ok = tt

pub ok_status_beside : {K : Type 0} (r : Result (Unit {0}) NodeRefused) (p : PartsView) (l m : LedgerView K) (key : List ℕ) (repo : ℕ) (there : Bool) → OnOk r (m ≡ with_status l m.keeper key repo there) → OnOk r (beside p m ≡ with_status (beside p l) m.keeper key repo there)
ok_status_beside (Ok x) p l m key repo there ok = ap (beside p) ok
ok_status_beside (Err e) p l m key repo there ok = tt

pub err_so : {K X : Type 0} (r : Result X NodeRefused) (p : PartsView) (call : Call) (l m : LedgerView K) → IfErr r (λ e. RefusesSo e call l m) → IfErr r (λ e. RefusesSo e call (beside p l) (beside p m))
err_so (Ok x) p call l m err = tt
err_so (Err e) p call l m err = refuses_beside p Script e call l m err

pub ok_merged : {K : Type 0} (r : Result (Unit {0}) NodeRefused) (p : PartsView) (l m : LedgerView K) (files : Files) → OnOk r (m ≡ over m.keeper (merge_files l files)) → OnOk r (beside p m ≡ over m.keeper (merge_files (beside p l) files))
ok_merged {K} (Ok x) p l m files ok = ap (beside p) ok ∙ ap (λ (n : NodeView K). over m.keeper n) (merges_beside p l files)
ok_merged (Err e) p l m files ok = tt

pub ok_compacted : {K : Type 0} (r : Result (Unit {0}) NodeRefused) (p : PartsView) (l m : LedgerView K) (paths : List (List ℕ)) → OnOk r (m ≡ over m.keeper (compact_files l paths)) → OnOk r (beside p m ≡ over m.keeper (compact_files (beside p l) paths))
ok_compacted {K} (Ok x) p l m paths ok = ap (beside p) ok ∙ ap (λ (n : NodeView K). over m.keeper n) (compacts_beside p l paths)
ok_compacted (Err e) p l m paths ok = tt

-- walks that were refused, and that met a full history
module _ {K X : Type 0} (p : PartsView) (done_with : List X → LedgerView K) (node_with : List X → NodeView K) (same : (xs : List X) → beside p (done_with xs) ≡ node_with xs) where
  stops_beside : (all : List X) (e : NodeRefused) (m : LedgerView K) → StopsAfter done_with all e m → StopsAfter node_with all e (beside p m)
  stops_beside all e m stops = record {
    done = stops.done;
    left = stops.left;
    whole = stops.whole;
    keeper = stops.keeper;
    refused = subst (λ (n : NodeView K). RefusesSo e PutFile (over stops.keeper n) (beside p m)) (same stops.done)
        (refuses_beside p Script e PutFile (over stops.keeper (done_with stops.done)) m stops.refused);
  }

  meets_beside : (test : LedgerView K → X → Bool) (node_test : NodeView K → X → Bool) (like : (l : LedgerView K) (x : X) → node_test (beside p l) x ≡ test l x) (all : List X) (f f' : Option (Call → ℕ)) (l m : LedgerView K)
      → ((xs : List X) (b : Bool) → list_any (test l) xs ≡ b → list_any (node_test (beside p l)) xs ≡ b) → MeetsFull done_with test all f f' l m → MeetsFull node_with node_test all f f' (beside p l) (beside p m)
  meets_beside test node_test like all f f' l m any meets = record {
    done = meets.done;
    next = meets.next;
    left = meets.left;
    whole = meets.whole;
    calls = subst (λ (b : Bool). MakesCalls (to_write b) None f f') (sym (any meets.done (list_any (test l) meets.done) refl)) meets.calls;
    node = ap (beside p) meets.node ∙ ap (λ (n : NodeView K). over m.keeper n) (same meets.done);
    full = meets.full;
    writes = like m meets.next ∙ meets.writes;
  }

pub err_merged : {K : Type 0} (r : Result (Unit {0}) NodeRefused) (p : PartsView) (l m : LedgerView K) (files : Files) → IfErr r (λ e. StopsAfter (merge_files l) files e m) → IfErr r (λ e. StopsAfter (merge_files (beside p l)) files e (beside p m))
err_merged (Ok x) p l m files err = tt
err_merged (Err e) p l m files err = stops_beside p (merge_files l) (merge_files (beside p l)) (merges_beside p l) files e m err

pub err_compacted : {K : Type 0} (r : Result (Unit {0}) NodeRefused) (p : PartsView) (l m : LedgerView K) (paths : List (List ℕ)) → IfErr r (λ e. StopsAfter (compact_files l) paths e m) → IfErr r (λ e. StopsAfter (compact_files (beside p l)) paths e (beside p m))
err_compacted (Ok x) p l m paths err = tt
err_compacted (Err e) p l m paths err = stops_beside p (compact_files l) (compact_files (beside p l)) (compacts_beside p l) paths e m err

pub full_merged : {K : Type 0} (p : PartsView) (l m : LedgerView K) (files : Files) (f f' : Option (Call → ℕ)) → MeetsFull (merge_files l) lacks_of files f f' l m → MeetsFull (merge_files (beside p l)) lacks_of files f f' (beside p l) (beside p m)
full_merged p l m files f f' meets =
    meets_beside p (merge_files l) (merge_files (beside p l)) (merges_beside p l) lacks_of lacks_of (λ n x. refl) files f f' l m (λ xs b is. is) meets

pub full_compacted : {K : Type 0} (p : PartsView) (l m : LedgerView K) (paths : List (List ℕ)) (f f' : Option (Call → ℕ)) → MeetsFull (compact_files l) shrinks_at paths f f' l m → MeetsFull (compact_files (beside p l)) shrinks_at paths f f' (beside p l) (beside p m)
full_compacted p l m paths f f' meets =
    meets_beside p (compact_files l) (compact_files (beside p l)) (compacts_beside p l) shrinks_at shrinks_at (λ n x. refl) paths f f' l m (λ xs b is. is) meets
