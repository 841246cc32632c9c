-- What a log entry leaves of the lines of files, and the ledger after them.
use Rattle.std.proofs.Common.{◌≡◌, ◌≢◌, ℕ, Bool, true, false, if◌then◌else◌, List, [], ◌∷◌, Option, Some, Result, Ok, Err, OnOk, bytes_eq, refl, sym, ◌∙◌, ap, subst}
use Rattle.annex_base.proofs.Conditions.{by_test, bytes_eq-true, bytes_eq-refl}
use Rattle.union_merge.specs.Branch.{Files, file_at, lines_at, merged_file, or_none, with_file}
use Rattle.union_merge.specs.LineSet.{union}
use Rattle.run_data.specs.declared.entry.EntryKind.TheVariants.{Compact, Log}
use Rattle.run_data.specs.declared.entry.LogFile.{LogFile}
use Rattle.run_data.specs.Files.{file_path, kind_of}
use Rattle.log_lines.specs.declared.entry.LogKind.{LogKind}
use Rattle.log_lines.specs.Newest.{current_lines}
use Rattle.node_model.specs.Files.{compact_lines, lines_after}
use Rattle.node_ledger.specs.Ledgers.{with_entry, LedgerView}
use Rattle.node_past.specs.declared.refused.NodeRefused.{NodeRefused}
use Rattle.node_ledger.specs.Logs.{with_lines, with_log}
use Rattle.node_ledger.specs.Walks.{current}

abbrev pub Other : Files → List ℕ → List (List ℕ) → Type 0
Other branch path all = (p : List ℕ) → p ≢ path → lines_at (with_file branch path all) p ≡ lines_at branch p

not_same : (x y : List ℕ) → bytes_eq x y ≡ false → x ≡ y → ⊥
not_same x y differ same = let equal : bytes_eq x y ≡ true = subst (λ (w : List ℕ). bytes_eq x w ≡ true) same (bytes_eq-refl x) in absurd cc

-- a file that is given lines has them, and each other file has its own
pub file_changed : (branch : Files) (path q : List ℕ) (all now : List (List ℕ)) → q ≡ path → file_at (with_file branch path all) path ≡ Some all → Other branch path all
    → all ≡ now → (p : List ℕ) → lines_at (with_file branch path all) p ≡ (if bytes_eq q p then now else lines_at branch p)
file_changed branch path q all now here there other is p = by_test (bytes_eq q p)
    (λ equal.
    let at : path ≡ p = sym here ∙ bytes_eq-true q p equal in
    ap (λ (w : List ℕ). lines_at (with_file branch path all) w) (sym at) ∙ ap or_none there ∙ is
    ∙ ap (λ (b : Bool). if b then now else lines_at branch p) (sym equal))
    (λ differ.
    other p (λ same. not_same q p differ (here ∙ sym same))
    ∙ ap (λ (b : Bool). if b then now else lines_at branch p) (sym differ))

-- where the file is the one of this path, it may be written by its lines there
pub if_there : (b : Bool) (x y z : List (List ℕ)) → (b ≡ true → x ≡ y) → (if b then x else z) ≡ (if b then y else z)
if_there true x y z same = same refl
if_there false x y z same = refl

pub logged : (branch : Files) (path : List ℕ) (file : LogFile) (new all : List (List ℕ)) → path ≡ file_path file → file_at (with_file branch path all) path ≡ Some all → Other branch path all
    → all ≡ union (lines_at branch path) new → (p : List ℕ) → lines_at (with_file branch path all) p ≡ lines_after p (lines_at branch p) (Log file) new
logged branch path file new all here there other is p =
    file_changed branch path (file_path file) all (union (lines_at branch path) new) (sym here) there other is p
    ∙ if_there (bytes_eq (file_path file) p) (union (lines_at branch path) new) (union (lines_at branch p) new) (lines_at branch p)
    (λ equal. ap (λ (w : List ℕ). union (lines_at branch w) new) (here ∙ bytes_eq-true (file_path file) p equal))

-- a file that is compacted has its current lines, and each other file has its own
pub shrunk : (branch : Files) (path : List ℕ) (file : LogFile) (kind : LogKind) (lines all none : List (List ℕ)) → path ≡ file_path file → kind_of file ≡ Some kind → lines ≡ lines_at branch path → all ≡ current_lines kind lines → none ≡ []
    → file_at (with_file branch path all) path ≡ Some all → Other branch path all
    → (p : List ℕ) → lines_at (with_file branch path all) p ≡ lines_after p (lines_at branch p) (Compact file) none
shrunk branch path file kind lines all none here of_kind at is empty there other p =
    let now : all ≡ compact_lines (kind_of file) (lines_at branch path) = is ∙ ap (current_lines kind) at ∙ ap (λ (o : Option LogKind). compact_lines o (lines_at branch path)) (sym of_kind) in
    file_changed branch path (file_path file) all (compact_lines (kind_of file) (lines_at branch path)) (sym here) there other now p
    ∙ if_there (bytes_eq (file_path file) p) (compact_lines (kind_of file) (lines_at branch path)) (compact_lines (kind_of file) (lines_at branch p)) (lines_at branch p)
    (λ equal. ap (λ (w : List ℕ). compact_lines (kind_of file) (lines_at branch w)) (here ∙ bytes_eq-true (file_path file) p equal))

pub ok_shrunk : {K : Type 0} (r : Result (Unit {0}) NodeRefused) (n m : LedgerView K) (path : List ℕ) (file : LogFile) (kind : LogKind) (lines all none : List (List ℕ)) → path ≡ file_path file → kind_of file ≡ Some kind → lines ≡ lines_at n.branch path → all ≡ current_lines kind lines → none ≡ []
    → OnOk r (m ≡ with_entry n m.keeper (with_file n.branch path all) (Compact file) none) → OnOk r (m ≡ with_entry n m.keeper (with_file n.branch (file_path file) (current n file)) (Compact file) [])
ok_shrunk (Ok x) n m path file kind lines all none here of_kind at is empty ok =
    ok ∙ ap (λ (w : List (List ℕ)). with_entry n m.keeper (with_file n.branch path all) (Compact file) w) empty
    ∙ ap (λ (w : List (List ℕ)). with_entry n m.keeper (with_file n.branch path w) (Compact file) []) (is ∙ ap (current_lines kind) at ∙ ap (λ (o : Option LogKind). compact_lines o (lines_at n.branch path)) (sym of_kind))
    ∙ ap (λ (w : List ℕ). with_entry n m.keeper (with_file n.branch w (compact_lines (kind_of file) (lines_at n.branch w))) (Compact file) []) here
ok_shrunk (Err e) n m path file kind lines all none here of_kind at is empty ok = tt

-- the repository with this entry, by the names of its file and its lines
pub log_entry : {K : Type 0} (n : LedgerView K) (k : K) (file : LogFile) (path : List ℕ) (new listed all : List (List ℕ)) → listed ≡ new → path ≡ file_path file → all ≡ union (lines_at n.branch path) new
    → with_entry n k (with_file n.branch path all) (Log file) listed ≡ with_entry n k (merged_file n.branch (file_path file) new) (Log file) new
log_entry n k file path new listed all same here is =
    ap (λ (w : List (List ℕ)). with_entry n k (with_file n.branch path all) (Log file) w) same
    ∙ ap (λ (w : List (List ℕ)). with_entry n k (with_file n.branch path w) (Log file) new) is
    ∙ ap (λ (w : List ℕ). with_entry n k (merged_file n.branch w new) (Log file) new) here

pub ok_entry : {K : Type 0} (r : Result (Unit {0}) NodeRefused) (n m : LedgerView K) (file : LogFile) (path : List ℕ) (new listed all : List (List ℕ)) → listed ≡ new → path ≡ file_path file → all ≡ union (lines_at n.branch path) new
    → OnOk r (m ≡ with_entry n m.keeper (with_file n.branch path all) (Log file) listed) → OnOk r (m ≡ with_entry n m.keeper (merged_file n.branch (file_path file) new) (Log file) new)
ok_entry (Ok x) n m file path new listed all same here is ok = ok ∙ log_entry n m.keeper file path new listed all same here is
ok_entry (Err e) n m file path new listed all same here is ok = tt

-- where there are new lines, it is the repository with these
some_log : {K : Type 0} (n : LedgerView K) (k : K) (file : LogFile) (new : List (List ℕ)) → new ≢ [] → with_entry n k (merged_file n.branch (file_path file) new) (Log file) new ≡ with_log n k file new
some_log n k file [] some = absurd (some refl)
some_log n k file (line ∷ lines) some = refl

pub ok_some : {K : Type 0} (r : Result (Unit {0}) NodeRefused) (n m : LedgerView K) (file : LogFile) (path : List ℕ) (new listed all : List (List ℕ)) → listed ≡ new → path ≡ file_path file → all ≡ union (lines_at n.branch path) new
    → OnOk r (m ≡ with_entry n m.keeper (with_file n.branch path all) (Log file) listed) → OnOk r (new ≢ [] → m ≡ with_log n m.keeper file new)
ok_some (Ok x) n m file path new listed all same here is ok = λ some. ok ∙ log_entry n m.keeper file path new listed all same here is ∙ some_log n m.keeper file new some
ok_some (Err e) n m file path new listed all same here is ok = tt

pub logged_listed : (branch : Files) (path : List ℕ) (file : LogFile) (new listed all : List (List ℕ)) → listed ≡ new → path ≡ file_path file → file_at (with_file branch path all) path ≡ Some all → Other branch path all
    → all ≡ union (lines_at branch path) new → (p : List ℕ) → lines_at (with_file branch path all) p ≡ lines_after p (lines_at branch p) (Log file) listed
logged_listed branch path file new listed all same here there other is =
    subst (λ (x : List (List ℕ)). (p : List ℕ) → lines_at (with_file branch path all) p ≡ lines_after p (lines_at branch p) (Log file) x) (sym same)
    (logged branch path file new all here there other is)

pub ok_told : {K : Type 0} (r : Result (Unit {0}) NodeRefused) (n m : LedgerView K) (file told : LogFile) (lines named : List (List ℕ)) → file ≡ told → lines ≡ named
    → OnOk r (m ≡ with_lines n m.keeper file lines) → OnOk r (m ≡ with_lines n m.keeper told named)
ok_told r n m file told lines named here is ok =
    subst (λ (f : LogFile). OnOk r (m ≡ with_lines n m.keeper f named)) here (subst (λ (x : List (List ℕ)). OnOk r (m ≡ with_lines n m.keeper file x)) is ok)
