-- How the files of a repository change by an entry, path by path.
use Rattle.std.proofs.Common.{◌≡◌, ◌≢◌, ℕ, true, false, if◌then◌else◌, List, [], Option, Some, None, refl, sym, ap, ◌∙◌}
use Rattle.std.specs.Str.{bytes_eq}
use Rattle.std.proofs.lemmas.Bool.{false≢true}
use Rattle.annex_base.proofs.Conditions.{by_test, bytes_eq-refl, bytes_eq-true}
use Rattle.log_lines.specs.declared.entry.LogKind.{LogKind}
use Rattle.union_merge.specs.LineSet.{union}
use Rattle.union_merge.specs.Branch.{Files, file_at, lines_at, or_none, with_file}
use Rattle.trust_groups.specs.Settings.{settings}
use Rattle.run_data.specs.declared.entry.Entry.{Entry}
use Rattle.run_data.specs.declared.entry.EntryKind.{EntryKind}
use Rattle.run_data.specs.declared.entry.EntryKind.TheVariants.{Log, Compact}
use Rattle.run_data.specs.declared.entry.LogFile.{LogFile}
use Rattle.run_data.specs.Files.{file_path, kind_of}
use Rattle.run_model.specs.Logs.{branch_after, compact_file}
use Rattle.node_model.specs.Files.{compact_lines, lines_after}
use Rattle.node_model.specs.After.{state_after}
use Rattle.node_model.specs.SetUp.{SetUp}
use Rattle.node_model.specs.State.{State}

abbrev Lines : Type 0
Lines = List (List ℕ)

-- the laws of files that are changed, as the lemmas take them
abbrev pub IsThere : Type 0
IsThere = (files : Files) (path : List ℕ) (lines : Lines) → file_at (with_file files path lines) path ≡ Some lines

abbrev pub OthersStay : Type 0
OthersStay = (files : Files) (path other : List ℕ) (lines : Lines) → other ≢ path → lines_at (with_file files path lines) other ≡ lines_at files other

is_other : (path other : List ℕ) → bytes_eq path other ≡ false → other ≢ path
is_other path other differ same = false≢true (sym differ ∙ ap (bytes_eq path) same ∙ bytes_eq-refl path)

-- a file that is given what some change makes of its lines
file_changed : IsThere → OthersStay → (g : Lines → Lines) (files : Files) (at path : List ℕ)
    → lines_at (with_file files at (g (lines_at files at))) path ≡ (if bytes_eq at path then g (lines_at files path) else lines_at files path)
file_changed there others g files at path = by_test (bytes_eq at path)
    (λ same. let is = bytes_eq-true at path same in
    rw same (ap (λ (p : List ℕ). lines_at (with_file files at (g (lines_at files at))) p) (sym is) ∙ ap or_none (there files at (g (lines_at files at))) ∙ ap (λ (p : List ℕ). g (lines_at files p)) is))
    (λ differ. rw differ (others files at path (g (lines_at files at)) (is_other at path differ)))

compacts_none : (kind : Option LogKind) → compact_lines kind [] ≡ []
compacts_none None = refl
compacts_none (Some kind) = refl

compacted : IsThere → OthersStay → (files : Files) (file : LogFile) (found : Option Lines) → file_at files (file_path file) ≡ found → (path : List ℕ)
    → lines_at (compact_file file files found) path ≡ (if bytes_eq (file_path file) path then compact_lines (kind_of file) (lines_at files path) else lines_at files path)
compacted there others files file None is path = by_test (bytes_eq (file_path file) path)
    (λ same. let none : lines_at files path ≡ [] = ap (lines_at files) (sym (bytes_eq-true (file_path file) path same)) ∙ ap or_none is in
    rw same (none ∙ sym (compacts_none (kind_of file)) ∙ ap (compact_lines (kind_of file)) (sym none)))
    (λ differ. rw differ refl)
compacted there others files file (Some lines) is path =
    ap (λ (ls : Lines). lines_at (with_file files (file_path file) (compact_lines (kind_of file) ls)) path) (sym (ap or_none is))
    ∙ file_changed there others (compact_lines (kind_of file)) files (file_path file) path

-- path by path, a branch changes as the lines do
pub lines_changed : IsThere → OthersStay → (files : Files) (kind : EntryKind) (lines : Lines) (path : List ℕ) → lines_at (branch_after files kind lines) path ≡ lines_after path (lines_at files path) kind lines
lines_changed there others files (Log file) lines path = file_changed there others (λ was. union was lines) files (file_path file) path
lines_changed there others files (Compact file) lines path = compacted there others files file (file_at files (file_path file)) refl path
lines_changed there others files kind lines path = refl

-- ---- the state

-- the lines after an entry are these, where they are those before, changed by it
pub lines_noted : (s : SetUp) (st : State) (e : Entry) (was now : Files) → ((path : List ℕ) → st.lines path ≡ lines_at was path) → ((path : List ℕ) → lines_at now path ≡ lines_after path (lines_at was path) e.kind e.lines)
    → (path : List ℕ) → (state_after s st e).lines path ≡ lines_at now path
lines_noted s st e was now same changed path = ap (λ (ls : Lines). lines_after path ls e.kind e.lines) (same path) ∙ sym (changed path)

pub logs_noted : (s : SetUp) (st : State) (e : Entry) (now : Files) → ((path : List ℕ) → (state_after s st e).lines path ≡ lines_at now path) → (state_after s st e).logs ≡ settings (lines_at now)
logs_noted s st e now same = λ i. settings (λ path. same path i)
