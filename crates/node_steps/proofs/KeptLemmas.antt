-- A ledger and the parts beside it go on to stand after entries of files and of the script.
use Rattle.std.proofs.Common.{◌≡◌, ◌≢◌, ℕ, Bool, true, false, if◌then◌else◌, List, [], ◌∷◌, length, Option, Some, None, Result, Ok, Err, OnOk, IfErr, is_some, refl, sym, ap, subst, ◌∙◌}
use Rattle.node_ledger.specs.Ledgers.{LedgerView, due_by, owed_now, with_entry}
use Rattle.node_steps.specs.Kept.{Stands, KeepsDirect, IsKept, IsOfFiles}
use Rattle.node_steps.specs.Nodes.{beside, told_of}
use Rattle.std.specs.Prelude.{bytes_eq, nat_lt}
use Rattle.annex_base.specs.declared.kinds.Call.{Call}
use Rattle.annex_base.specs.declared.kinds.Call.TheVariants.{PutFile}
use Rattle.annex_base.proofs.Conditions.{bytes_eq-true}
use Rattle.object_store.specs.Stores.{Contents, Parts}
use Rattle.object_store.specs.declared.keeper.HoldRecord.{HoldRecord}
use Rattle.run_data.specs.Files.{file_of, file_path, kind_of}
use Rattle.run_data.specs.declared.entry.By.{By}
use Rattle.run_data.specs.declared.entry.By.TheVariants.{Script}
use Rattle.run_data.specs.declared.entry.EntryKind.{EntryKind}
use Rattle.run_data.specs.declared.entry.EntryKind.TheVariants.{Compact, Fault, Log}
use Rattle.run_data.specs.declared.entry.LogFile.{LogFile}
use Rattle.run_data.specs.declared.entry.LogFile.TheVariants.{Location}
use Rattle.union_merge.specs.Branch.{Files, file_at, lines_at, merged_file, with_file}
use Rattle.union_merge.specs.LineSet.{difference, union}
use Rattle.node_model.specs.Files.{compact_lines, lines_after}
use Rattle.node_parts.specs.Direct.{may_fail}
use Rattle.node_parts.specs.Parts.{PartsView}
use Rattle.node_past.specs.declared.refused.NodeRefused.{NodeRefused}
use Rattle.node_past.specs.declared.refused.NodeRefused.TheVariants as refusals
use Rattle.node_ledger.specs.Debts.{with_status}
use Rattle.node_ledger.specs.Logs.{with_lines, with_log}
use Rattle.node_ledger.specs.Refusals.{RefusesFor, RefusesSo}
use Rattle.node_ledger.specs.Walks.{StopsAfter, compact_file, compact_files, current, merge_file, merge_files, over}
use Rattle.node_ledger.proofs.LogLemmas.{file_changed, if_there, logged}
use Rattle.node_steps.proofs.StateLemmas.{direct, files_move, kept_more, put_may_fail}

-- ---- by the fields of a ledger

-- a ledger is kept beside these parts, over a store that tells these contents
abbrev pub KeptAt : {K : Type 0} → LedgerView K → PartsView → Option Contents → Type 0
KeptAt l p told = IsKept l.setup l.clock l.history p l.branch l.owed told

-- the same as it was before its fields were seen
pub stands_in : {K : Type 0} (cs : K → Option Contents) (ps : K → Option Parts) (rs : K → Option (List HoldRecord)) (l n : LedgerView K) (p : PartsView) → l ≡ n → Stands n p (cs n.keeper) (ps n.keeper) (rs n.keeper) → Stands l p (cs l.keeper) (ps l.keeper) (rs l.keeper)
stands_in {K} cs ps rs l n p is stands = subst (λ (x : LedgerView K). Stands x p (cs x.keeper) (ps x.keeper) (rs x.keeper)) (sym is) stands

-- what the store tells stays
pub told_same : (known known' : Option Contents) (parts parts' : Option Parts) → known' ≡ known → is_some parts' ≡ is_some parts → told_of known' parts' ≡ told_of known parts
told_same known known' None None same tells = refl
told_same known known' (Some f) (Some g) same tells = same
told_same known known' None (Some g) same tells = absurd cc
told_same known known' (Some f) None same tells = absurd cc

-- a ledger that is kept stands, over a store that keeps contents, parts and records
pub stands_so : {K : Type 0} (l m : LedgerView K) (p : PartsView) (cs cs' : Option Contents) (ps ps' : Option Parts) (rs rs' : Option (List HoldRecord)) → cs' ≡ cs → ps' ≡ ps → rs' ≡ rs
    → (KeptAt l p (told_of cs ps) → KeptAt m p (told_of cs ps)) → Stands l p cs ps rs → Stands m p cs' ps' rs'
stands_so l m p cs cs' ps ps' rs rs' contents parts records keeps stands = record {
  kept = subst (KeptAt m p) (sym (told_same cs cs' ps ps' contents (ap is_some parts))) (keeps stands.kept);
  agrees = λ x told. stands.agrees x (sym records ∙ told);
  fed = λ q told. stands.fed q (sym parts ∙ told);
}

-- ---- one entry

-- the laws on files that are changed
abbrev pub ThereLaw : Type 0
ThereLaw = (files : Files) (path : List ℕ) (lines : List (List ℕ)) → file_at (with_file files path lines) path ≡ Some lines

abbrev pub OtherLaw : Type 0
OtherLaw = (files : Files) (path other : List ℕ) (lines : List (List ℕ)) → other ≢ path → lines_at (with_file files path lines) other ≡ lines_at files other

-- an entry of files with these lines, and a branch that has them
pub kept_entry : {K : Type 0} (l : LedgerView K) (k : K) (p : PartsView) (told : Option Contents) (branch : Files) (kind : EntryKind) (lines : List (List ℕ)) → KeepsDirect p → IsOfFiles kind
    → ((path : List ℕ) → lines_at branch path ≡ lines_after path (lines_at l.branch path) kind lines) → KeptAt l p told → KeptAt (with_entry l k branch kind lines) p told
kept_entry l k p told branch kind lines keeps of_files here kept =
    kept_more (beside p l) branch told told (owed_now l kind lines) kind lines keeps (direct kind of_files) kept here (files_move kind told told of_files refl) refl

pub kept_equal : {K : Type 0} (l m : LedgerView K) (p : PartsView) (told : Option Contents) → m ≡ l → KeptAt l p told → KeptAt m p told
kept_equal {K} l m p told is kept = subst (λ (x : LedgerView K). KeptAt x p told) (sym is) kept

-- a call that was refused
pub kept_refused : {K : Type 0} (by : By) (e : NodeRefused) (call : Call) (l m : LedgerView K) (p : PartsView) (told : Option Contents) → KeepsDirect p → may_fail by call ≡ true → RefusesFor by e call l m → KeptAt l p told → KeptAt m p told
kept_refused by refusals.Full call l m p told keeps may refuses kept = kept_equal (record l { keeper = m.keeper }) m p told refuses.0 kept
kept_refused by refusals.StoreFault call l m p told keeps may refuses kept =
    kept_equal (with_entry l m.keeper l.branch (Fault call by) []) m p told refuses (kept_entry l m.keeper p told l.branch (Fault call by) [] keeps may (λ path. refl) kept)
kept_refused by (refusals.BadBundle at) call l m p told keeps may refuses kept = absurd refuses
kept_refused by refusals.NoMemory call l m p told keeps may refuses kept = kept_equal (record l { keeper = m.keeper }) m p told refuses kept

-- new lines of a file
pub kept_logged : {K : Type 0} (l : LedgerView K) (k : K) (p : PartsView) (told : Option Contents) (file : LogFile) (new : List (List ℕ)) → ThereLaw → OtherLaw → KeepsDirect p → KeptAt l p told
    → KeptAt (with_entry l k (merged_file l.branch (file_path file) new) (Log file) new) p told
kept_logged l k p told file new there other keeps kept =
    let all : List (List ℕ) = union (lines_at l.branch (file_path file)) new in
    kept_entry l k p told (with_file l.branch (file_path file) all) (Log file) new keeps tt
    (logged l.branch (file_path file) file new all refl (there l.branch (file_path file) all) (λ q differ. other l.branch (file_path file) q all differ) refl) kept

kept_with_log : {K : Type 0} (l : LedgerView K) (k : K) (p : PartsView) (told : Option Contents) (file : LogFile) (new : List (List ℕ)) → ThereLaw → OtherLaw → KeepsDirect p → KeptAt l p told → KeptAt (with_log l k file new) p told
kept_with_log l k p told file [] there other keeps kept = kept
kept_with_log l k p told file (line ∷ lines) there other keeps kept = kept_logged l k p told file (line ∷ lines) there other keeps kept

kept_with_lines : {K : Type 0} (l : LedgerView K) (k : K) (p : PartsView) (told : Option Contents) (file : LogFile) (lines : List (List ℕ)) → ThereLaw → OtherLaw → KeepsDirect p → KeptAt l p told → KeptAt (with_lines l k file lines) p told
kept_with_lines l k p told file lines there other keeps kept = kept_with_log l k p told file (difference lines (lines_at l.branch (file_path file))) there other keeps kept

-- a file that is compacted
kept_current : {K : Type 0} (l : LedgerView K) (p : PartsView) (told : Option Contents) (file : LogFile) → ThereLaw → OtherLaw → KeepsDirect p → KeptAt l p told
    → KeptAt (with_entry l l.keeper (with_file l.branch (file_path file) (current l file)) (Compact file) []) p told
kept_current l p told file there other keeps kept =
    let path : List ℕ = file_path file in
    let all : List (List ℕ) = current l file in
    kept_entry l l.keeper p told (with_file l.branch path all) (Compact file) [] keeps tt
    (λ q.
    file_changed l.branch path path all all refl (there l.branch path all) (λ x differ. other l.branch path x all differ) refl q
    ∙ if_there (bytes_eq path q) all (compact_lines (kind_of file) (lines_at l.branch q)) (lines_at l.branch q)
    (λ equal. ap (λ (w : List ℕ). compact_lines (kind_of file) (lines_at l.branch w)) (bytes_eq-true path q equal))) kept

kept_one_if : {K : Type 0} (b : Bool) (l m : LedgerView K) (p : PartsView) (told : Option Contents) → KeptAt m p told → KeptAt l p told → KeptAt (if b then m else l) p told
kept_one_if true l m p told now kept = now
kept_one_if false l m p told now kept = kept

kept_compact_file : {K : Type 0} (l : LedgerView K) (p : PartsView) (told : Option Contents) (file : LogFile) → ThereLaw → OtherLaw → KeepsDirect p → KeptAt l p told → KeptAt (compact_file l file) p told
kept_compact_file l p told file there other keeps kept =
    kept_one_if (nat_lt (length (current l file)) (length (lines_at l.branch (file_path file)))) l (with_entry l l.keeper (with_file l.branch (file_path file) (current l file)) (Compact file) []) p told
    (kept_current l p told file there other keeps kept) kept

-- ---- walks

kept_merge_files : {K : Type 0} (l : LedgerView K) (p : PartsView) (told : Option Contents) (files : List (List ℕ × List (List ℕ))) → ThereLaw → OtherLaw → KeepsDirect p → KeptAt l p told → KeptAt (merge_files l files) p told
kept_merge_files l p told [] there other keeps kept = kept
kept_merge_files l p told (f ∷ files) there other keeps kept =
    kept_merge_files (merge_file l f) p told files there other keeps (kept_with_lines l l.keeper p told (file_of f.0) f.1 there other keeps kept)

kept_compact_files : {K : Type 0} (l : LedgerView K) (p : PartsView) (told : Option Contents) (paths : List (List ℕ)) → ThereLaw → OtherLaw → KeepsDirect p → KeptAt l p told → KeptAt (compact_files l paths) p told
kept_compact_files l p told [] there other keeps kept = kept
kept_compact_files l p told (path ∷ paths) there other keeps kept =
    kept_compact_files (compact_file l (file_of path)) p told paths there other keeps (kept_compact_file l p told (file_of path) there other keeps kept)

-- a walk that was refused, after what it did
kept_stopped : {K X : Type 0} (done_with : List X → LedgerView K) (all : List X) (e : NodeRefused) (m : LedgerView K) (p : PartsView) (told : Option Contents) → KeepsDirect p → ((xs : List X) → KeptAt (done_with xs) p told) → StopsAfter done_with all e m → KeptAt m p told
kept_stopped done_with all e m p told keeps done stops =
    kept_refused Script e PutFile (over stops.keeper (done_with stops.done)) m p told keeps refl stops.refused (done stops.done)

-- ---- by the answers of calls

pub kept_lines : {K : Type 0} (r : Result (Unit {0}) NodeRefused) (l m : LedgerView K) (p : PartsView) (told : Option Contents) (file : LogFile) (lines : List (List ℕ)) → ThereLaw → OtherLaw → KeepsDirect p
    → OnOk r (m ≡ with_lines l m.keeper file lines) → IfErr r (λ e. RefusesSo e PutFile l m) → KeptAt l p told → KeptAt m p told
kept_lines (Ok x) l m p told file lines there other keeps ok err kept = kept_equal (with_lines l m.keeper file lines) m p told ok (kept_with_lines l m.keeper p told file lines there other keeps kept)
kept_lines (Err e) l m p told file lines there other keeps ok err kept = kept_refused Script e PutFile l m p told keeps refl err kept

pub kept_merged : {K : Type 0} (r : Result (Unit {0}) NodeRefused) (l m : LedgerView K) (p : PartsView) (told : Option Contents) (files : Files) → ThereLaw → OtherLaw → KeepsDirect p
    → OnOk r (m ≡ over m.keeper (merge_files l files)) → IfErr r (λ e. StopsAfter (merge_files l) files e m) → KeptAt l p told → KeptAt m p told
kept_merged (Ok x) l m p told files there other keeps ok err kept = kept_equal (over m.keeper (merge_files l files)) m p told ok (kept_merge_files l p told files there other keeps kept)
kept_merged (Err e) l m p told files there other keeps ok err kept = kept_stopped (merge_files l) files e m p told keeps (λ xs. kept_merge_files l p told xs there other keeps kept) err

pub kept_compacted : {K : Type 0} (r : Result (Unit {0}) NodeRefused) (l m : LedgerView K) (p : PartsView) (told : Option Contents) (paths : List (List ℕ)) → ThereLaw → OtherLaw → KeepsDirect p
    → OnOk r (m ≡ over m.keeper (compact_files l paths)) → IfErr r (λ e. StopsAfter (compact_files l) paths e m) → KeptAt l p told → KeptAt m p told
kept_compacted (Ok x) l m p told paths there other keeps ok err kept = kept_equal (over m.keeper (compact_files l paths)) m p told ok (kept_compact_files l p told paths there other keeps kept)
kept_compacted (Err e) l m p told paths there other keeps ok err kept = kept_stopped (compact_files l) paths e m p told keeps (λ xs. kept_compact_files l p told xs there other keeps kept) err

pub kept_status : {K : Type 0} (r : Result (Unit {0}) NodeRefused) (by : By) (l m : LedgerView K) (p : PartsView) (told : Option Contents) (key : List ℕ) (repo : ℕ) (there_is : Bool) → ThereLaw → OtherLaw → KeepsDirect p
    → OnOk r (m ≡ with_status l m.keeper key repo there_is) → IfErr r (λ e. RefusesFor by e PutFile l m) → KeptAt l p told → KeptAt m p told
kept_status (Ok x) by l m p told key repo there_is there other keeps ok err kept =
    kept_equal (with_status l m.keeper key repo there_is) m p told ok (kept_logged l m.keeper p told (Location key) (due_by l key repo there_is) there other keeps kept)
kept_status (Err e) by l m p told key repo there_is there other keeps ok err kept = kept_refused by e PutFile l m p told keeps (put_may_fail by) err kept

-- ---- of the node

pub refuses_beside : {K : Type 0} (p : PartsView) (by : By) (e : NodeRefused) (call : Call) (l m : LedgerView K) → RefusesFor by e call l m → RefusesFor by e call (beside p l) (beside p m)
refuses_beside p by refusals.Full call l m refuses = (ap (beside p) refuses.0, refuses.1)
refuses_beside p by refusals.StoreFault call l m refuses = ap (beside p) refuses
refuses_beside p by (refusals.BadBundle at) call l m refuses = refuses
refuses_beside p by refusals.NoMemory call l m refuses = ap (beside p) refuses
