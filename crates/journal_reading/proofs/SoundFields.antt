-- The fields of a journal's lines as sound forms.
use Rattle.std.proofs.Common.{◌≡◌, inl, inr, ℕ, Bool, true, false, List, [], ◌∷◌, Option, Some, None, refl, sym, ap, subst, ◌∙◌}
use Rattle.std.specs.Prelude.{bytes_eq, codes, is_some}
use Rattle.std.proofs.lemmas.Bool.{cases_Bool}
use Rattle.annex_base.specs.Lines.{is_one_line}
use Rattle.annex_base.proofs.Conditions.{and_first, and_second, bytes_eq-true}
use Rattle.annex_base.proofs.Lines.{one_line-passes}
use Rattle.annex_base.proofs.Lists.{find_member}
use Rattle.annex_base.proofs.Options.{is_none_true}
use Rattle.annex_base.specs.declared.kinds.Call.{Call}
use Rattle.annex_base.specs.declared.kinds.Found.{Found}
use Rattle.annex_key.specs.View.{first_fault}
use Rattle.annex_key.proofs.LineLemmas.{key_line, sound_text}
use Rattle.annex_key.specs.Tree.{Entries}
use Rattle.log_grammar.specs.Files.{file_name, named_kinds, kind_named}
use Rattle.log_grammar.specs.declared.entry.LogKind.{LogKind}
use Rattle.log_grammar.specs.declared.entry.LogKind.TheVariants as log_kinds
use Rattle.p2p_wire.specs.Messages.{message_of}
use Rattle.run_data.specs.declared.run.RepoView.{RepoView}
use Rattle.run_data.specs.declared.entry.By.{By}
use Rattle.run_data.specs.declared.entry.By.TheVariants as bys
use Rattle.run_data.specs.declared.entry.LogFile.{LogFile}
use Rattle.run_data.specs.declared.entry.LogFile.TheVariants as files
use Rattle.run_data.specs.declared.entry.FrameText.TheVariants as bodies
use Rattle.run_text.specs.Jobs.{key_text}
use Rattle.script_words.specs.Fields.{is_key, is_path, call_word, all_calls}
use Rattle.script_words.specs.Marks.{behind_mark}
use Rattle.script_words.specs.Words.{quote, has_space, printed_word}
use Rattle.journal_text.specs.Journal.{found_text, side_text, file_text}
use Rattle.journal_reading.specs.Forms.{Form, one_of, passing, nothing, up_to, by_rows, row}
use Rattle.journal_reading.specs.Fields.{small, large, a_byte, repo_number, key, of_script, of_job, of_peer, by_form, other_by, all_found, found_form, both, side_form, call_form, IsOneFile, kind_form, IsFile, file_rows, file_form, IsNamedKey, keyed, is_message, body_rows, body_form}
use Rattle.journal_reading.specs.Lines.{way_word, frame_parts, a_frame, frame_form}
use Rattle.journal_reading.proofs.FormLemmas.{IsForm, Lacks, row_back, is_table}
use Rattle.journal_reading.proofs.TableLemmas.{reads_at}
use Rattle.journal_reading.proofs.SoundLemmas.{OneLine, line_by_text, line_append, number_line, one_of_line, passing_line, nothing_line, up_to_line, row_line, rows_line, RowLine, Sound, sound_behind}
use Rattle.journal_reading.proofs.FieldLemmas.{AreNamed, is_small, is_large, is_a_byte, is_key_form, is_found_form, is_side_form, is_call_form, named_back, is_repo_number, is_by_form, is_other_by, decimal_lacks}
use Rattle.journal_reading.proofs.KeyLemmas.{said, said_printed}

-- ---- numbers

abbrev pub sound_small : Sound ℕ
sound_small = record { form = small; is = is_small; line = number_line 4294967295 }

abbrev pub sound_large : Sound ℕ
sound_large = record { form = large; is = is_large; line = number_line 18446744073709551615 }

abbrev pub sound_byte : Sound ℕ
sound_byte = record { form = a_byte; is = is_a_byte; line = number_line 255 }

pub small_space : Lacks 32 small
small_space n ok = decimal_lacks 32 refl n

pub small_comma : Lacks 44 small
small_comma n ok = decimal_lacks 44 refl n

pub large_space : Lacks 32 large
large_space n ok = decimal_lacks 32 refl n

pub large_point : Lacks 46 large
large_point n ok = decimal_lacks 46 refl n

-- ---- keys

pub key_one_line : (word : List ℕ) → is_key word ≡ true → is_one_line word ≡ true
key_one_line word e = one_line-passes word (key_line word ((sound_text word).0 (is_none_true (first_fault word) e)))

abbrev pub sound_key : Sound (List ℕ)
sound_key = record { form = key; is = is_key_form; line = passing_line is_key key_one_line }

abbrev pub sound_key_last : Sound (List ℕ)
sound_key_last = sound_behind (codes "key=") sound_key refl

-- ---- words

abbrev pub sound_found : Sound Found
sound_found = record { form = found_form; is = is_found_form; line = one_of_line found_text all_found refl }

abbrev pub sound_side : Sound Bool
sound_side = record { form = side_form; is = is_side_form; line = one_of_line side_text both refl }

abbrev pub sound_call : Sound Call
sound_call = record { form = call_form; is = is_call_form; line = one_of_line call_word all_calls refl }

-- ---- repositories, and for whom

pub repo_line : (repos : List RepoView) → AreNamed repos → OneLine (repo_number repos)
repo_line repos named word r e = subst (λ l. is_one_line l ≡ true) (sym (named_back repos word r e).0) (named.one_line r)

abbrev pub sound_repo : (repos : List RepoView) → AreNamed repos → Sound ℕ
sound_repo repos named = record { form = repo_number repos; is = is_repo_number repos named; line = repo_line repos named }

job_row_line : RowLine of_job
job_row_line = row_line (codes "job:") small bys.Job refl (number_line 4294967295)

peer_row_line : (repos : List RepoView) → AreNamed repos → RowLine (of_peer repos)
peer_row_line repos named = row_line (codes "peer:") (up_to 46 (repo_number repos) (λ p. small)) (λ x. bys.Peer x.0 x.1) refl
    (up_to_line 46 (repo_number repos) (λ p. small) refl (repo_line repos named) (λ p. number_line 4294967295))

pub other_line : (repos : List RepoView) → AreNamed repos → OneLine (other_by repos)
other_line repos named = rows_line (of_job ∷ of_peer repos ∷ []) (job_row_line, (peer_row_line repos named, tt))

pub by_line : (repos : List RepoView) → AreNamed repos → OneLine (by_form repos)
by_line repos named = rows_line (of_script ∷ of_job ∷ of_peer repos ∷ []) (row_line (codes "script") nothing (λ x. bys.Script) refl nothing_line, (job_row_line, (peer_row_line repos named, tt)))

abbrev pub sound_other : (repos : List RepoView) → AreNamed repos → Sound By
sound_other repos named = record { form = other_by repos; is = is_other_by repos named; line = other_line repos named }

abbrev pub sound_by : (repos : List RepoView) → AreNamed repos → Sound By
sound_by repos named = record { form = by_form repos; is = is_by_form repos named; line = by_line repos named }

-- ---- files

kind_there : (kind : LogKind) → IsOneFile kind → kind_named (file_name kind) ≡ Some kind
kind_there log_kinds.Location ok = absurd ok
kind_there log_kinds.Trust ok = refl
kind_there log_kinds.Uuid ok = refl
kind_there log_kinds.Group ok = refl
kind_there log_kinds.Preferred ok = refl
kind_there log_kinds.Required ok = refl
kind_there log_kinds.GroupPreferred ok = refl
kind_there log_kinds.Numcopies ok = refl
kind_there log_kinds.Mincopies ok = refl
kind_there log_kinds.NumcopiesPath ok = refl
kind_there log_kinds.MincopiesPath ok = refl

kind_spelled : (word : List ℕ) (kind : LogKind) → kind_named word ≡ Some kind → word ≡ file_name kind
kind_spelled word kind e = sym (bytes_eq-true (file_name kind) word (find_member (λ k. bytes_eq (file_name k) word) named_kinds kind e).1)

kind_ok : (word : List ℕ) (kind : LogKind) → kind_named word ≡ Some kind → word ≡ file_name kind → IsOneFile kind
kind_ok word log_kinds.Location e same = let clash : None ≡ Some log_kinds.Location = ap kind_named (sym same) ∙ e in absurd cc
kind_ok word log_kinds.Trust e same = tt
kind_ok word log_kinds.Uuid e same = tt
kind_ok word log_kinds.Group e same = tt
kind_ok word log_kinds.Preferred e same = tt
kind_ok word log_kinds.Required e same = tt
kind_ok word log_kinds.GroupPreferred e same = tt
kind_ok word log_kinds.Numcopies e same = tt
kind_ok word log_kinds.Mincopies e same = tt
kind_ok word log_kinds.NumcopiesPath e same = tt
kind_ok word log_kinds.MincopiesPath e same = tt

is_kind_form : IsForm kind_form
is_kind_form = record {
  there = kind_there;
  back = λ word kind e. let same = kind_spelled word kind e in (same, kind_ok word kind e same);
}

file_reads : (kind : LogKind) → IsOneFile kind → by_rows file_rows (file_name kind) ≡ Some (files.Of kind)
unfolding behind_mark
file_reads log_kinds.Location ok = absurd ok
file_reads log_kinds.Trust ok = refl
file_reads log_kinds.Uuid ok = refl
file_reads log_kinds.Group ok = refl
file_reads log_kinds.Preferred ok = refl
file_reads log_kinds.Required ok = refl
file_reads log_kinds.GroupPreferred ok = refl
file_reads log_kinds.Numcopies ok = refl
file_reads log_kinds.Mincopies ok = refl
file_reads log_kinds.NumcopiesPath ok = refl
file_reads log_kinds.MincopiesPath ok = refl

file_there : (file : LogFile) → IsFile file → by_rows file_rows (file_text file) ≡ Some file
file_there (files.Location k) ok = reads_at file_rows 0 (file_text (files.Location k)) (codes "location ") key files.Location is_key_form k ok refl refl refl
file_there (files.Of kind) ok = file_reads kind ok
file_there (files.Other name) ok = absurd ok

pub is_file_form : IsForm file_form
is_file_form = is_table file_text file_rows IsFile (
  row_back file_text IsFile (codes "location ") key files.Location is_key_form (λ k ok. (refl, ok)),
  (row_back file_text IsFile [] kind_form files.Of is_kind_form (λ kind ok. (refl, ok)), tt),
)
    file_there

pub file_line : OneLine file_form
file_line = rows_line file_rows (
  row_line (codes "location ") key files.Location refl (passing_line is_key key_one_line),
  (row_line [] kind_form files.Of refl (one_of_line file_name named_kinds refl), tt),
)

abbrev pub sound_file : Sound LogFile
sound_file = record { form = file_form; is = is_file_form; line = file_line }

-- ---- keys and paths of jobs

printed_line : (word : List ℕ) → is_one_line word ≡ true → is_one_line (printed_word word) ≡ true
printed_line word e = elim (cases_Bool (has_space word)) [
  | inl spaced ↦ rw spaced (line_append (quote ∷ word) (quote ∷ []) e refl)
  | inr none ↦ rw none e
]

said_line : (tree : Entries) (k : List ℕ) (path : Option (List ℕ)) → IsNamedKey tree k path → is_one_line (said k path) ≡ true
said_line tree k None ok = key_one_line k ok.0
said_line tree k (Some path) ok = and_second (is_path path) (is_one_line path) ok.0

pub key_text_line : (tree : Entries) (k : List ℕ) (path : Option (List ℕ)) → IsNamedKey tree k path → is_one_line (key_text k path) ≡ true
key_text_line tree k path ok = subst (λ l. is_one_line l ≡ true) (sym (said_printed k path)) (printed_line (said k path) (said_line tree k path ok))

pub keyed_line : {A : Type 0} (tree : Entries) (next : Form A) → IsForm (keyed tree next) → ((y : A) → next.ok y → is_one_line (next.text y) ≡ true) → OneLine (keyed tree next)
keyed_line tree next is line = line_by_text (keyed tree next) is (λ x ok. line_append (key_text x.0.0 x.0.1) (next.text x.1) (key_text_line tree x.0.0 x.0.1 ok.0) (line x.1 ok.1))

-- ---- frames

body_line : OneLine body_form
body_line = rows_line body_rows (
  row_line (codes "OPEN") nothing (λ x. bodies.Opening) refl nothing_line,
  (
    row_line (codes "CLOSE") nothing (λ x. bodies.Closing) refl nothing_line,
    (
      row_line (codes "BYTES ") large bodies.Bytes refl (number_line 18446744073709551615),
      (row_line [] (passing is_message) bodies.Line refl (passing_line is_message (λ word e. and_first (is_one_line word) (is_some (message_of word)) e)), tt),
    ),
  ),
)

pub frame_line : (repos : List RepoView) → AreNamed repos → (mark : List ℕ) → is_one_line mark ≡ true → OneLine (frame_form repos mark)
frame_line repos named mark plain = rows_line (row mark (frame_parts repos) a_frame ∷ []) (row_line mark (frame_parts repos) a_frame plain parts, tt)
  where
    parts : OneLine (frame_parts repos)
    parts =
        up_to_line 32 (repo_number repos) (λ p. up_to 32 small (λ s. up_to 32 (one_of way_word (true ∷ false ∷ [])) (λ w. up_to 32 small (λ e. up_to 32 large (λ n. body_form))))) refl (repo_line repos named) (λ p.
        up_to_line 32 small (λ s. up_to 32 (one_of way_word (true ∷ false ∷ [])) (λ w. up_to 32 small (λ e. up_to 32 large (λ n. body_form)))) refl (number_line 4294967295) (λ s.
        up_to_line 32 (one_of way_word (true ∷ false ∷ [])) (λ w. up_to 32 small (λ e. up_to 32 large (λ n. body_form))) refl (one_of_line way_word (true ∷ false ∷ []) refl) (λ w.
        up_to_line 32 small (λ e. up_to 32 large (λ n. body_form)) refl (number_line 4294967295) (λ e.
        up_to_line 32 large (λ n. body_form) refl (number_line 18446744073709551615) (λ n. body_line)))))
