-- The lines that are kept of a log say what all lines say that were ever added to it.
use Rattle.std.proofs.Common.{◌≡◌, ◌⊎◌, inl, inr, ℕ, List, [], ◌∷◌, ◌++◌, Option, Some, None, refl, sym, ap, ◌∙◌}
use Rattle.std.proofs.lemmas.Bool.{cases_Bool}
use Rattle.log_lines.specs.declared.entry.LogKind.{LogKind}
use Rattle.log_lines.specs.declared.entry.LogKind.TheVariants as kinds
use Rattle.log_lines.specs.Newest.{newest, ReadAlike}
use Rattle.annex_base.proofs.Lists.{Member-append_cases, Member-append_left, Member-append_right}
use Rattle.annex_base.proofs.Conditions.{bytes_eq_tells}
use Rattle.step_facts.proofs.Below.{LogLaws}
use Rattle.union_merge.specs.LineSet.{union}
use Rattle.union_merge.specs.Branch.{Files, file_at, or_none, lines_at, with_file, merged_file}
use Rattle.hash_dirs.specs.LogPath.{location_path}
use Rattle.log_lines.specs.Files.{file_name}
use Rattle.trust_groups.specs.Settings.{settings}
use Rattle.run_data.specs.declared.entry.Entry.{Entry}
use Rattle.run_data.specs.declared.entry.EntryKind.{EntryKind}
use Rattle.run_data.specs.declared.entry.EntryKind.TheVariants.{Log, Compact}
use Rattle.run_data.specs.declared.entry.LogFile.{LogFile}
use Rattle.run_data.specs.declared.entry.LogFile.TheVariants.{Location, Of}
use Rattle.run_data.specs.Files.{file_path, kind_of}
use Rattle.node_model.specs.Files.{compact_lines}
use Rattle.run_model.specs.Past.{is_of}
use Rattle.run_model.specs.Logs.{added_by, lines_ever, compact_file, branch_after, branch, lines_of_file, settings_of}

abbrev Lines : Type 0
Lines = List (List ℕ)

-- ---- a path tells the kind of its log

-- each file at the path is of this kind, or of none
abbrev IsOf : LogKind → List ℕ → Type 0
IsOf kind path = (file : LogFile) → file_path file ≡ path → (kind_of file ≡ Some kind) ⊎ (kind_of file ≡ None)

name_is_of : LogLaws → (kind : LogKind) → IsOf kind (file_name kind)
name_is_of log_laws kind file is = log_laws.kinds file (Of kind) kind is refl

location_is_of : LogLaws → (key : List ℕ) → IsOf kinds.Location (location_path key)
location_is_of log_laws key file is = log_laws.kinds file (Location key) kinds.Location is refl

-- ---- what is kept of a file reads as all of it

union_alike : LogLaws → (kind : LogKind) (xs ys : Lines) → ReadAlike kind (union xs ys) (ys ++ xs)
union_alike log_laws kind xs ys = log_laws.by_set kind (union xs ys) (ys ++ xs) (λ z. (
  λ among. elim ((log_laws.of_both xs ys z).0 among) [ inl one ↦ Member-append_right ys xs z one | inr other ↦ Member-append_left ys xs z other ],
  λ among. elim (Member-append_cases ys xs z among) [ inl other ↦ (log_laws.of_both xs ys z).1 (inr other) | inr one ↦ (log_laws.of_both xs ys z).1 (inl one) ],
))

log_alike : LogLaws → (kind : LogKind) (path : List ℕ) (file : LogFile) (files : Files) (lines all : Lines) → ReadAlike kind (lines_at files path) all → ReadAlike kind (lines_at (merged_file files (file_path file) lines) path) (added_by path (Log file) lines ++ all)
log_alike log_laws kind path file files lines all alike = elim (bytes_eq_tells (file_path file) path) [
  | inl same ↦ rw same.0
      (ap (newest kind) (ap (λ p. lines_at (merged_file files p lines) path) same.1 ∙ log_laws.set files path (union (lines_at files path) lines))
      ∙ union_alike log_laws kind (lines_at files path) lines
      ∙ log_laws.joined kind lines lines (lines_at files path) all refl alike)
  | inr other ↦ rw other.0 (ap (newest kind) (log_laws.set_others files (file_path file) path (union (lines_at files (file_path file)) lines) (λ same. other.1 (sym same))) ∙ alike)
]

lines_alike : LogLaws → (kind : LogKind) (of : Option LogKind) (lines : Lines) → (of ≡ Some kind) ⊎ (of ≡ None) → ReadAlike kind (compact_lines of lines) lines
lines_alike log_laws kind of lines (inl is) = ap (λ o. newest kind (compact_lines o lines)) is ∙ log_laws.compaction kind lines
lines_alike log_laws kind of lines (inr none) = ap (λ o. newest kind (compact_lines o lines)) none

compact_alike : LogLaws → (kind : LogKind) (path : List ℕ) (file : LogFile) (files : Files) (found : Option Lines) → IsOf kind path → file_at files (file_path file) ≡ found → ReadAlike kind (lines_at (compact_file file files found) path) (lines_at files path)
compact_alike log_laws kind path file files None of found = refl
compact_alike log_laws kind path file files (Some lines) of found =
    let less = compact_lines (kind_of file) lines in
    elim (bytes_eq_tells (file_path file) path) [
      | inl same ↦ ap (newest kind) (ap (λ p. lines_at (with_file files p less) path) same.1 ∙ log_laws.set files path less)
          ∙ lines_alike log_laws kind (kind_of file) lines (of file same.1)
          ∙ ap (newest kind) (sym (ap (λ p. lines_at files p) (sym same.1) ∙ ap or_none found))
      | inr other ↦ ap (newest kind) (log_laws.set_others files (file_path file) path less (λ same. other.1 (sym same)))
    ]

after_alike : LogLaws → (kind : LogKind) (path : List ℕ) (files : Files) (what : EntryKind) (lines all : Lines) → IsOf kind path → ReadAlike kind (lines_at files path) all → ReadAlike kind (lines_at (branch_after files what lines) path) (added_by path what lines ++ all)
after_alike log_laws kind path files (Log file) lines all of alike = log_alike log_laws kind path file files lines all alike
after_alike log_laws kind path files (Compact file) lines all of alike = compact_alike log_laws kind path file files (file_at files (file_path file)) of refl ∙ alike
after_alike log_laws kind path files _ lines all of alike = alike

kept_alike : LogLaws → (kind : LogKind) (path : List ℕ) → IsOf kind path → (past : List Entry) (r : ℕ) → ReadAlike kind (lines_of_file past r path) (lines_ever past r path)
kept_alike log_laws kind path of [] r = refl
kept_alike log_laws kind path of (e ∷ past) r =
    let before = kept_alike log_laws kind path of past r in
    elim (cases_Bool (is_of r e)) [
      | inl own ↦ rw own (after_alike log_laws kind path (branch past r) e.kind e.lines (lines_ever past r path) of before)
      | inr other ↦ rw other before
    ]

-- what the logs of a repository say by the lines that are kept is what they say by all lines that were ever added
pub kept_reads_as_ever : LogLaws → (past : List Entry) (r : ℕ) → settings (lines_of_file past r) ≡ settings_of past r
kept_reads_as_ever log_laws past r = log_laws.alike (lines_of_file past r) (lines_ever past r) (record {
  files = λ kind other. kept_alike log_laws kind (file_name kind) (name_is_of log_laws kind) past r;
  locations = λ key. kept_alike log_laws kinds.Location (location_path key) (location_is_of log_laws key) past r;
})
