-- The state after one entry is a function of the state before it and the entry; entries of others leave it alone.
use Rattle.std.proofs.Common.{◌≡◌, ℕ, ◌+◌, Bool, true, false, List, [], ◌∷◌, Option, Some, None, inl, inr, refl, sym, ap, ◌∙◌}
use Rattle.std.specs.Prelude.{if◌then◌else◌, bytes_eq, ◌&&◌}
use Rattle.annex_base.proofs.Conditions.{bytes_eq_tells}
use Rattle.annex_base.proofs.Functions.{funext}
use Rattle.step_facts.proofs.Below.{LogLaws}
use Rattle.log_lines.specs.declared.entry.LogKind.{LogKind}
use Rattle.union_merge.specs.LineSet.{union}
use Rattle.union_merge.specs.Branch.{Files, file_at, lines_at, or_none}
use Rattle.trust_groups.specs.Settings.{settings}
use Rattle.run_data.specs.declared.entry.Entry.{Entry}
use Rattle.run_data.specs.declared.entry.EntryKind.{EntryKind}
use Rattle.run_data.specs.declared.entry.EntryKind.TheVariants.{Crash, Log, Compact}
use Rattle.run_data.specs.declared.entry.LogFile.{LogFile}
use Rattle.node_model.specs.Clocks.{ClockSet, runs_on}
use Rattle.run_model.specs.Past.{bar, begun_count, clock_set, holds, is_of, entry_count, present, set_after}
use Rattle.node_model.specs.Slots.{is_begin}
use Rattle.run_model.specs.Logs.{branch, branch_after, compact_file, lines_of_file}
use Rattle.node_model.specs.Files.{compact_lines, lines_after}
use Rattle.run_data.specs.Files.{file_path, kind_of}
use Rattle.past_facts.proofs.LogLemmas.{kept_reads_as_ever}
use Rattle.node_model.specs.SetUp.{SetUp}
use Rattle.run_model.specs.States.{end_at, content, session, works, owes, state_of}
use Rattle.node_model.specs.After.{clock_after, state_after}
use Rattle.past_facts.proofs.OwnState.{own, state_own}

-- ---- the lines of its files

no_lines : (kind : Option LogKind) → compact_lines kind [] ≡ []
no_lines None = refl
no_lines (Some kind) = refl

compact_same : LogLaws → (path : List ℕ) (file : LogFile) (files : Files) (found : Option (List (List ℕ))) → file_at files (file_path file) ≡ found
    → lines_at (compact_file file files found) path ≡ (if bytes_eq (file_path file) path then compact_lines (kind_of file) (lines_at files path) else lines_at files path)
compact_same log_laws path file files None none = elim (bytes_eq_tells (file_path file) path) [
  | inl same ↦ rw same.0 (let missing : lines_at files path ≡ [] = ap (lines_at files) (sym same.1) ∙ ap or_none none in
      missing ∙ sym (no_lines (kind_of file)) ∙ ap (compact_lines (kind_of file)) (sym missing))
  | inr other ↦ rw other.0 refl
]
compact_same log_laws path file files (Some lines) found =
    let less = compact_lines (kind_of file) lines in
    elim (bytes_eq_tells (file_path file) path) [
      | inl same ↦ rw same.0 (ap (λ p. lines_at (Rattle.union_merge.specs.Branch.with_file files p less) path) same.1 ∙ log_laws.set files path less
          ∙ ap (compact_lines (kind_of file)) (sym (ap (lines_at files) (sym same.1) ∙ ap or_none found)))
      | inr other ↦ rw other.0 (log_laws.set_others files (file_path file) path less (λ same. other.1 (sym same)))
    ]

lines_same : LogLaws → (path : List ℕ) (files : Files) (kind : EntryKind) (lines : List (List ℕ)) → lines_at (branch_after files kind lines) path ≡ lines_after path (lines_at files path) kind lines
lines_same log_laws path files (Log file) lines = elim (bytes_eq_tells (file_path file) path) [
  | inl same ↦ rw same.0 (ap (λ p. lines_at (Rattle.union_merge.specs.Branch.merged_file files p lines) path) same.1 ∙ log_laws.set files path (union (lines_at files path) lines))
  | inr other ↦ rw other.0 (log_laws.set_others files (file_path file) path (union (lines_at files (file_path file)) lines) (λ same. other.1 (sym same)))
]
lines_same log_laws path files (Compact file) lines = compact_same log_laws path file files (file_at files (file_path file)) refl
lines_same log_laws path files _ lines = refl

-- ---- an entry of its own

if_own : {X : Type 0} (b : Bool) (x y : X) → b ≡ true → (if b then x else y) ≡ x
if_own b x y is = rw is refl

if_other : {X : Type 0} (b : Bool) (x y : X) → b ≡ false → (if b then x else y) ≡ y
if_other b x y is = rw is refl

pub kept_after : LogLaws → (past : List Entry) (r : ℕ) (e : Entry) → is_of r e ≡ true → lines_of_file (e ∷ past) r ≡ (λ path. lines_after path (lines_of_file past r path) e.kind e.lines)
kept_after log_laws past r e is = funext (lines_of_file (e ∷ past) r) (λ path. lines_after path (lines_of_file past r path) e.kind e.lines)
    (λ path. ap (λ (files : Files). lines_at files path) (if_own (is_of r e) (branch_after (branch past r) e.kind e.lines) (branch past r) is) ∙ lines_same log_laws path (branch past r) e.kind e.lines)

-- **all but what jobs have read**, whatever the past is
pub after_is : LogLaws → (s : SetUp) (past : List Entry) (e : Entry) → is_of s.number e ≡ true
    → state_of s (e ∷ past) ≡ record (state_after s (state_of s past) e) { read = (state_of s (e ∷ past)).read }
after_is log_laws s past e is i =
    let r = s.number in
    let now = state_of s (e ∷ past) in
    let st = state_after s (state_of s past) e in
    record {
      clock = (ap runs_on (if_own (is_of r e) (set_after e.time (clock_set s.repos past r) e.kind) (clock_set s.repos past r) is) ∙ clocks e.kind e.time (clock_set s.repos past r)) i;
      wall = now.wall;
      made = if_own (is_of r e) st.made (entry_count past r) is i;
      begun = begins (is_of r e) (is_begin e.kind) is i;
      present = funext now.present st.present (λ key. if_own (is_of r e) (st.present key) (present past r key) is) i;
      bar = funext now.bar st.bar (λ key. if_own (is_of r e) (st.bar key) (bar past r key) is) i;
      content = funext now.content st.content (λ key. if_own (is_of r e) (st.content key) (content past r key) is) i;
      holds = if_own (is_of r e) st.holds (holds past r) is i;
      ends = funext now.ends st.ends (λ a. if_own (is_of r e) (st.ends a) (end_at past r a) is) i;
      sessions = funext now.sessions st.sessions (λ a. if_own (is_of r e) (st.sessions a) (session past r a) is) i;
      works = if_own (is_of r e) st.works (works past r) is i;
      owed = if_own (is_of r e) st.owed (owes s.repos past r) is i;
      lines = kept_after log_laws past r e is i;
      logs = (sym (kept_reads_as_ever log_laws (e ∷ past) r) ∙ ap settings (kept_after log_laws past r e is)) i;
      read = now.read;
    }
  where
    clocks : (kind : EntryKind) (time : ℕ) (was : ClockSet) → runs_on (set_after time was kind) ≡ clock_after (runs_on was) time kind
    clocks (Crash clock) time was = refl
    clocks kind time was = refl

    begins : (b c : Bool) → b ≡ true → (if b && c then begun_count past s.number + 1 else begun_count past s.number) ≡ (if c then begun_count past s.number + 1 else begun_count past s.number)
    begins true c is = refl
    begins false c is = absurd (cc)

-- ---- an entry of another

-- **entries of others leave the state alone**
pub other_is : (s : SetUp) (past : List Entry) (e : Entry) → is_of s.number e ≡ false → state_of s (e ∷ past) ≡ state_of s past
other_is s past e is = state_own s (e ∷ past) ∙ ap (state_of s) (if_other (is_of s.number e) (e ∷ own s.number past) (own s.number past) is) ∙ sym (state_own s past)
