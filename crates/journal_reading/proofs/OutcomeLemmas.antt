-- How a job ended is read as it is written.
use Rattle.std.proofs.Common.{◌≡◌, ◌⊎◌, inl, inr, ℕ, ◌<◌, Bool, true, false, ◌==◌, List, [], ◌∷◌, ◌++◌, map, length, Option, Some, None, refl, sym, ap, subst, ◌∙◌, append_assoc, arith}
use Rattle.std.specs.Prelude.{codes, bytes_eq}
use Rattle.std.specs.List.{find}
use Rattle.std.specs.Fmt.{digits, decimal}
use Rattle.annex_base.specs.Lines.{newline, is_not_newline, is_one_line}
use Rattle.annex_base.specs.Decimal.{number_of}
use Rattle.annex_base.proofs.Lists.{list_all_append}
use Rattle.run_data.specs.declared.run.RepoView.{RepoView}
use Rattle.run_data.specs.declared.job.Job.{Job}
use Rattle.run_data.specs.declared.job.JobKind.{JobKind}
use Rattle.run_data.specs.declared.job.JobKind.TheVariants as jobs
use Rattle.run_data.specs.declared.job.Proof.{Proof}
use Rattle.run_data.specs.declared.job.Cause.{Cause}
use Rattle.run_data.specs.declared.job.Cause.TheVariants as causes
use Rattle.run_data.specs.declared.job.CandidateCause.{CandidateCause}
use Rattle.run_data.specs.declared.job.Denial.{Denial}
use Rattle.run_data.specs.declared.job.Denial.TheVariants as denials
use Rattle.run_data.specs.declared.job.DropRefusal.{DropRefusal}
use Rattle.run_data.specs.declared.job.DropRefusal.TheVariants as refusals
use Rattle.run_data.specs.declared.job.TransferRefusal.{TransferRefusal}
use Rattle.run_data.specs.declared.job.TransferRefusal.TheVariants as transfers
use Rattle.run_data.specs.declared.job.SourceCause.{SourceCause}
use Rattle.run_data.specs.declared.job.SourceCause.TheVariants as sources
use Rattle.run_data.specs.declared.job.SourceFailure.{SourceFailure}
use Rattle.run_data.specs.declared.job.Outcome.{Outcome}
use Rattle.run_data.specs.declared.job.Outcome.TheVariants as outcomes
use Rattle.run_text.specs.Words.{joined_text, number_or_dash}
use Rattle.run_text.specs.Names.{name_of, name_or_dash, names}
use Rattle.run_text.specs.Outcomes.{proof_text, candidate_text, cause_text, until_text, denial_text, ordered_text, source_text, failure_text, transfer_text, transfer_word, transfer_word_of}
use Rattle.script_words.specs.Marks.{behind_mark}
use Rattle.script_words.specs.Numbers.{number_up_to}
use Rattle.journal_reading.specs.Forms.{Form, passing, nothing, or_dash, or_dash_text, joined, row_in, by_rows}
use Rattle.journal_reading.specs.Fields.{small, large, a_byte, repo_number, rises, repo_list}
use Rattle.journal_reading.specs.Kinds.{proof_form, a_proof, a_candidate, a_failure, candidate_form, failure_form, rank, candidates_form, failures_form, IsUntil, until_form, denial_form, ordered_form, got_form, lacking_form, expired_form, outcome_rows, ended_text, IsProof, IsRefusal, IsTransfer, IsOutcome, outcome_form}
use Rattle.journal_reading.proofs.FormLemmas.{IsForm, Lacks, lacks, is_other}
use Rattle.journal_reading.proofs.FieldLemmas.{AreNamed, is_repo_number, is_tested}
use Rattle.journal_reading.proofs.ListLemmas.{is_joined}
use Rattle.journal_reading.proofs.NamesLemmas.{joined_lacks, is_repo_list, list_space}
use Rattle.journal_reading.proofs.TableLemmas.{reads_at, none_unmarked, one_before}
use Rattle.journal_reading.proofs.SoundLemmas.{OneLine, line_by_text, text_by_line, line_append, tested_line, Sound, SoundRow, sound_row, those, is_table_of, line_of_table, sound_behind, sound_up_to, sound_nothing, sound_dash, sound_one_of, sound_passing}
use Rattle.journal_reading.proofs.SoundFields.{sound_small, sound_large, sound_byte, sound_repo, small_space, small_comma, large_space}
use Rattle.journal_reading.proofs.DecimalLemmas.{no_number}

-- ---- lists of repositories

pub joined_line : {A : Type 0} (b : ℕ) (form : Form A) → IsForm (joined b form) → IsForm form → OneLine form → is_not_newline b ≡ true → OneLine (joined b form)
joined_line b form joins is line other = line_by_text (joined b form) joins (joined_lacks newline b form (λ x ok. text_by_line form is line x ok) other refl)

pub is_names : (repos : List RepoView) → AreNamed repos → IsForm (joined 44 (repo_number repos))
is_names repos named = is_joined 44 (repo_number repos) (is_repo_number repos named) named.lacks_comma refl named.no_dash

abbrev pub sound_list : (repos : List RepoView) → AreNamed repos → Sound (List ℕ)
sound_list repos named = record {
  form = repo_list repos;
  is = is_repo_list repos named;
  line = tested_line rises (joined 44 (repo_number repos)) (joined_line 44 (repo_number repos) (is_names repos named) (is_repo_number repos named) (sound_repo repos named).line refl);
}

-- ---- proofs

abbrev pub sound_need : {X : Type 0} → Sound X → Sound (ℕ × (ℕ × X))
sound_need next = sound_behind (codes "need=") (sound_up_to 44 sound_small (λ n. sound_up_to 32 sound_small (λ m. next) small_space refl) small_comma refl) refl

abbrev pub sound_proof : {X : Type 0} → (repos : List RepoView) → AreNamed repos → Sound X → Sound (ℕ × (ℕ × (List ℕ × (List ℕ × X))))
sound_proof repos named last = sound_need (sound_behind (codes "locked=") (sound_up_to 32 (sound_list repos named) (λ l.
    sound_behind (codes "trusted=") (sound_up_to 32 (sound_list repos named) (λ t. sound_behind (codes "recent=") last refl) (list_space repos named) refl) refl) (list_space repos named) refl) refl)

-- ---- causes

cause_each : (x : Cause) → find (λ y. bytes_eq (cause_text y) (cause_text x)) (causes.Absent ∷ causes.Barred ∷ causes.Fault ∷ causes.Closed ∷ causes.Untrusted ∷ causes.Dead ∷ []) ≡ Some x
cause_each causes.Absent = refl
cause_each causes.Barred = refl
cause_each causes.Fault = refl
cause_each causes.Closed = refl
cause_each causes.Untrusted = refl
cause_each causes.Dead = refl

abbrev sound_cause : Sound Cause
sound_cause = sound_one_of cause_text (causes.Absent ∷ causes.Barred ∷ causes.Fault ∷ causes.Closed ∷ causes.Untrusted ∷ causes.Dead ∷ []) cause_each refl

cause_comma : (x : Cause) → lacks 44 (cause_text x) ≡ true
cause_comma causes.Absent = refl
cause_comma causes.Barred = refl
cause_comma causes.Fault = refl
cause_comma causes.Closed = refl
cause_comma causes.Untrusted = refl
cause_comma causes.Dead = refl

source_each : (x : SourceCause) → find (λ y. bytes_eq (source_text y) (source_text x)) (sources.Absent ∷ sources.Closed ∷ sources.Wrong ∷ sources.Invalid ∷ []) ≡ Some x
source_each sources.Absent = refl
source_each sources.Closed = refl
source_each sources.Wrong = refl
source_each sources.Invalid = refl

abbrev sound_source : Sound SourceCause
sound_source = sound_one_of source_text (sources.Absent ∷ sources.Closed ∷ sources.Wrong ∷ sources.Invalid ∷ []) source_each refl

source_comma : (x : SourceCause) → lacks 44 (source_text x) ≡ true
source_comma sources.Absent = refl
source_comma sources.Closed = refl
source_comma sources.Wrong = refl
source_comma sources.Invalid = refl

colon_words : (name word : List ℕ) → name ++ 58 ∷ word ≡ (name ++ codes ":") ++ word
colon_words name word = sym (append_assoc name (codes ":") word)

-- a repository, a colon and a cause
abbrev sound_candidate_parts : (repos : List RepoView) → AreNamed repos → Sound (ℕ × Cause)
sound_candidate_parts repos named = sound_up_to 58 (sound_repo repos named) (λ r. sound_cause) named.lacks_colon refl

abbrev sound_failure_parts : (repos : List RepoView) → AreNamed repos → Sound (ℕ × SourceCause)
sound_failure_parts repos named = sound_up_to 58 (sound_repo repos named) (λ r. sound_source) named.lacks_colon refl

abbrev candidate_row : (repos : List RepoView) → AreNamed repos → SoundRow (candidate_text repos) (λ x. x.repo < length repos)
candidate_row repos named = sound_row (candidate_text repos) (λ x. x.repo < length repos) [] (sound_candidate_parts repos named) a_candidate refl
    (λ x ok. (colon_words (name_of repos x.0) (cause_text x.1), ok.0))

abbrev failure_row : (repos : List RepoView) → AreNamed repos → SoundRow (failure_text repos) (λ x. x.repo < length repos)
failure_row repos named = sound_row (failure_text repos) (λ x. x.repo < length repos) [] (sound_failure_parts repos named) a_failure refl
    (λ x ok. (colon_words (name_of repos x.0) (source_text x.1), ok.0))

candidate_there : (repos : List RepoView) (named : AreNamed repos) (x : CandidateCause) → x.repo < length repos → by_rows (those (candidate_text repos) (λ y. y.repo < length repos) (candidate_row repos named ∷ [])) (candidate_text repos x) ≡ Some x
candidate_there repos named x ok = reads_at (those (candidate_text repos) (λ y. y.repo < length repos) (candidate_row repos named ∷ [])) 0 (candidate_text repos x) [] (sound_candidate_parts repos named).form a_candidate (sound_candidate_parts repos named).is
    (x.repo, x.cause) (ok, tt) (colon_words (name_of repos x.repo) (cause_text x.cause)) refl refl

failure_there : (repos : List RepoView) (named : AreNamed repos) (x : SourceFailure) → x.repo < length repos → by_rows (those (failure_text repos) (λ y. y.repo < length repos) (failure_row repos named ∷ [])) (failure_text repos x) ≡ Some x
failure_there repos named x ok = reads_at (those (failure_text repos) (λ y. y.repo < length repos) (failure_row repos named ∷ [])) 0 (failure_text repos x) [] (sound_failure_parts repos named).form a_failure (sound_failure_parts repos named).is
    (x.repo, x.cause) (ok, tt) (colon_words (name_of repos x.repo) (source_text x.cause)) refl refl

is_candidate_form : (repos : List RepoView) → AreNamed repos → IsForm (candidate_form repos)
is_candidate_form repos named = is_table_of (candidate_text repos) (λ x. x.repo < length repos) (candidate_row repos named ∷ []) (candidate_there repos named)

is_failure_form : (repos : List RepoView) → AreNamed repos → IsForm (failure_form repos)
is_failure_form repos named = is_table_of (failure_text repos) (λ x. x.repo < length repos) (failure_row repos named ∷ []) (failure_there repos named)

candidate_line : (repos : List RepoView) → AreNamed repos → OneLine (candidate_form repos)
candidate_line repos named = line_of_table (candidate_text repos) (λ x. x.repo < length repos) (candidate_row repos named ∷ [])

failure_line : (repos : List RepoView) → AreNamed repos → OneLine (failure_form repos)
failure_line repos named = line_of_table (failure_text repos) (λ x. x.repo < length repos) (failure_row repos named ∷ [])

candidate_comma : (repos : List RepoView) → AreNamed repos → Lacks 44 (candidate_form repos)
candidate_comma repos named x ok = list_all_append (is_other 44) (name_of repos x.repo ++ codes ":") (cause_text x.cause) (list_all_append (is_other 44) (name_of repos x.repo) (codes ":") (named.lacks_comma x.repo ok) refl) (cause_comma x.cause)

failure_comma : (repos : List RepoView) → AreNamed repos → Lacks 44 (failure_form repos)
failure_comma repos named x ok = list_all_append (is_other 44) (name_of repos x.repo ++ codes ":") (source_text x.cause) (list_all_append (is_other 44) (name_of repos x.repo) (codes ":") (named.lacks_comma x.repo ok) refl) (source_comma x.cause)

dash_candidate : (repos : List RepoView) → (candidate_form repos).read (codes "-") ≡ None
unfolding behind_mark
dash_candidate repos = refl

dash_failure : (repos : List RepoView) → (failure_form repos).read (codes "-") ≡ None
unfolding behind_mark
dash_failure repos = refl

is_candidates : (repos : List RepoView) → AreNamed repos → IsForm (joined 44 (candidate_form repos))
is_candidates repos named = is_joined 44 (candidate_form repos) (is_candidate_form repos named) (candidate_comma repos named) refl (dash_candidate repos)

is_failures : (repos : List RepoView) → AreNamed repos → IsForm (joined 44 (failure_form repos))
is_failures repos named = is_joined 44 (failure_form repos) (is_failure_form repos named) (failure_comma repos named) refl (dash_failure repos)

abbrev sound_candidates : (repos : List RepoView) → AreNamed repos → ℕ → Sound (List CandidateCause)
sound_candidates repos named own = record {
  form = candidates_form repos own;
  is = is_tested (λ xs. rises (map (λ x. rank own x.repo) xs)) (joined 44 (candidate_form repos)) (is_candidates repos named);
  line = tested_line (λ xs. rises (map (λ x. rank own x.repo) xs)) (joined 44 (candidate_form repos)) (joined_line 44 (candidate_form repos) (is_candidates repos named) (is_candidate_form repos named) (candidate_line repos named) refl);
}

abbrev sound_failures : (repos : List RepoView) → AreNamed repos → ℕ → Sound (List SourceFailure)
sound_failures repos named own = record {
  form = failures_form repos own;
  is = is_tested (λ xs. rises (map (λ x. rank own x.repo) xs)) (joined 44 (failure_form repos)) (is_failures repos named);
  line = tested_line (λ xs. rises (map (λ x. rank own x.repo) xs)) (joined 44 (failure_form repos)) (joined_line 44 (failure_form repos) (is_failures repos named) (is_failure_form repos named) (failure_line repos named) refl);
}

-- ---- other fields

abbrev open_row : SoundRow until_text IsUntil
open_row = sound_row until_text IsUntil (codes "open") sound_nothing (λ x. None) refl (λ x ok. (refl, tt))

abbrev end_row : SoundRow until_text IsUntil
end_row = sound_row until_text IsUntil [] sound_large Some refl (λ x ok. (refl, ok))

until_there : (x : Option ℕ) → IsUntil x → by_rows (those until_text IsUntil (open_row ∷ end_row ∷ [])) (until_text x) ≡ Some x
unfolding behind_mark
until_there None ok = refl
until_there (Some end) ok = reads_at (those until_text IsUntil (open_row ∷ end_row ∷ [])) 1 (decimal end) [] large Some sound_large.is end ok refl refl
    (one_before (row_in (decimal end) open_row.that) (none_unmarked (codes "open") nothing (λ (x : Unit {0}). None) (decimal end) (no_number 111 (codes "pen") refl end (omega arith))))

abbrev sound_until : Sound (Option ℕ)
sound_until = record {
  form = until_form;
  is = is_table_of until_text IsUntil (open_row ∷ end_row ∷ []) until_there;
  line = line_of_table until_text IsUntil (open_row ∷ end_row ∷ []);
}

denial_each : (x : Denial) → find (λ y. bytes_eq (denial_text y) (denial_text x)) (denials.Late ∷ denials.Barred ∷ denials.Held ∷ denials.Fault ∷ []) ≡ Some x
denial_each denials.Late = refl
denial_each denials.Barred = refl
denial_each denials.Held = refl
denial_each denials.Fault = refl

abbrev sound_denial : Sound Denial
sound_denial = sound_one_of denial_text (denials.Late ∷ denials.Barred ∷ denials.Held ∷ denials.Fault ∷ []) denial_each refl

ordered_each : (x : Bool) → find (λ y. bytes_eq (ordered_text y) (ordered_text x)) (true ∷ false ∷ []) ≡ Some x
ordered_each true = refl
ordered_each false = refl

abbrev sound_ordered : Sound Bool
sound_ordered = sound_one_of ordered_text (true ∷ false ∷ []) ordered_each refl

pub large_dash : large.read (codes "-") ≡ None
unfolding number_up_to number_of digits
large_dash = refl

abbrev pub sound_number_or_dash : Sound (Option ℕ)
sound_number_or_dash = sound_dash sound_large large_dash

abbrev pub sound_repo_or_dash : (repos : List RepoView) → AreNamed repos → Sound (Option ℕ)
sound_repo_or_dash repos named = sound_dash (sound_repo repos named) named.no_dash

pub dash_lacks : (b : ℕ) → (45 == b) ≡ false → {A : Type 0} (form : Form A) → Lacks b form → Lacks b (or_dash form)
dash_lacks b apart form none None ok = rw apart refl
dash_lacks b apart form none (Some x) ok = none x ok

pub dash_number : (x : Option ℕ) → or_dash_text decimal x ≡ number_or_dash x
dash_number None = refl
dash_number (Some n) = refl

pub dash_name : (repos : List RepoView) (x : Option ℕ) → or_dash_text (name_of repos) x ≡ name_or_dash repos x
dash_name repos None = refl
dash_name repos (Some r) = refl

-- ---- the words of the rows

proof_words : (n m l t r : List ℕ) → codes "need=" ++ (n ++ 44 ∷ (m ++ 32 ∷ (codes "locked=" ++ (l ++ 32 ∷ (codes "trusted=" ++ (t ++ 32 ∷ (codes "recent=" ++ r)))))))
    ≡ codes "need=" ++ n ++ codes "," ++ m ++ codes " locked=" ++ l ++ codes " trusted=" ++ t ++ codes " recent=" ++ r
proof_words n m l t r = simp append_assoc

lacking_words : (n m l t r c : List ℕ) → codes "need=" ++ (n ++ 44 ∷ (m ++ 32 ∷ (codes "locked=" ++ (l ++ 32 ∷ (codes "trusted=" ++ (t ++ 32 ∷ (codes "recent=" ++ (r ++ 32 ∷ (codes "causes=" ++ c)))))))))
    ≡ (codes "need=" ++ n ++ codes "," ++ m ++ codes " locked=" ++ l ++ codes " trusted=" ++ t ++ codes " recent=" ++ r) ++ codes " causes=" ++ c
lacking_words n m l t r c = simp append_assoc

got_words : (s t : List ℕ) → codes "done source=" ++ (s ++ 32 ∷ (codes "start=" ++ t)) ≡ codes "done source=" ++ s ++ codes " start=" ++ t
got_words s t = simp append_assoc

expired_words : (e c : List ℕ) → codes "refused 6 expired " ++ (e ++ 32 ∷ c) ≡ codes "refused " ++ (codes "6 expired " ++ e ++ codes " " ++ c)
expired_words e c = simp append_assoc

got_spelled : (repos : List RepoView) (s t : Option ℕ) → codes "done source=" ++ (or_dash_text (name_of repos) s ++ 32 ∷ (codes "start=" ++ or_dash_text decimal t)) ≡ codes "done source=" ++ name_or_dash repos s ++ codes " start=" ++ number_or_dash t
got_spelled repos s t = got_words (or_dash_text (name_of repos) s) (or_dash_text decimal t)
    ∙ ap (λ l. codes "done source=" ++ l ++ codes " start=" ++ or_dash_text decimal t) (dash_name repos s)
    ∙ ap (λ l. codes "done source=" ++ name_or_dash repos s ++ codes " start=" ++ l) (dash_number t)

-- ---- the word before a transfer's refusal

abbrev pub IsWord : List ℕ → Type 0
IsWord word = (word ≡ []) ⊎ (word ≡ codes "transfer ")

kind_word : (kind : JobKind) → IsWord (transfer_word kind)
kind_word jobs.Drop = inl refl
kind_word jobs.Get = inl refl
kind_word jobs.Copy = inl refl
kind_word jobs.MoveTo = inr refl
kind_word jobs.MoveFrom = inr refl

pub job_word : (job : Option Job) → IsWord (transfer_word_of job)
job_word None = inl refl
job_word (Some job) = kind_word job.kind

word_line : (word : List ℕ) → IsWord word → is_one_line word ≡ true
word_line word (inl none) = rw none refl
word_line word (inr some) = rw some refl

-- ---- rows of outcomes

abbrev dropped : (repos : List RepoView) → AreNamed repos → Sound (ℕ × (ℕ × (List ℕ × (List ℕ × List ℕ))))
dropped repos named = sound_proof repos named (sound_list repos named)

abbrev lacking : (repos : List RepoView) → AreNamed repos → ℕ → Sound (ℕ × (ℕ × (List ℕ × (List ℕ × (List ℕ × List CandidateCause)))))
lacking repos named own = sound_proof repos named (sound_up_to 32 (sound_list repos named) (λ l. sound_behind (codes "causes=") (sound_candidates repos named own) refl) (list_space repos named) refl)

abbrev got : (repos : List RepoView) → AreNamed repos → Sound (Option ℕ × Option ℕ)
got repos named = sound_up_to 32 (sound_repo_or_dash repos named) (λ s. sound_behind (codes "start=") sound_number_or_dash refl) (dash_lacks 32 refl (repo_number repos) named.lacks_space) refl

abbrev expired : Sound (ℕ × ℕ)
expired = sound_up_to 32 sound_large (λ e. sound_large) large_space refl

abbrev required : Sound (List ℕ)
required = sound_passing is_one_line (λ word e. e)

abbrev OutcomeRow : List RepoView → ℕ → List ℕ → Type 0
OutcomeRow repos own word = SoundRow (ended_text repos word) (IsOutcome repos own)

proof_ok : (repos : List RepoView) (x : ℕ × (ℕ × (List ℕ × (List ℕ × List ℕ)))) → (proof_form repos (repo_list repos)).ok x → IsProof repos (a_proof (λ l. l) x)
proof_ok repos x ok = record { need = record { n_small = ok.0; m_small = ok.1.0 }; locked = ok.1.1.0; trusted = ok.1.1.1.0; recent = ok.1.1.1.1 }

lacking_ok : (repos : List RepoView) (own : ℕ) (x : ℕ × (ℕ × (List ℕ × (List ℕ × (List ℕ × List CandidateCause))))) → (lacking_form repos own).ok x → IsProof repos (a_proof (λ y. y.0) x)
lacking_ok repos own x ok = record { need = record { n_small = ok.0; m_small = ok.1.0 }; locked = ok.1.1.0; trusted = ok.1.1.1.0; recent = ok.1.1.1.1.0 }

proof_spelled : (repos : List RepoView) (x : ℕ × (ℕ × (List ℕ × (List ℕ × List ℕ)))) → (proof_form repos (repo_list repos)).text x ≡ proof_text repos (a_proof (λ l. l) x)
proof_spelled repos x = proof_words (decimal x.0) (decimal x.1.0) (names repos x.1.1.0) (names repos x.1.1.1.0) (names repos x.1.1.1.1)

lacking_spelled : (repos : List RepoView) (own : ℕ) (x : ℕ × (ℕ × (List ℕ × (List ℕ × (List ℕ × List CandidateCause))))) → (lacking_form repos own).text x
    ≡ proof_text repos (a_proof (λ y. y.0) x) ++ codes " causes=" ++ joined_text 44 (candidate_text repos) x.1.1.1.1.1
lacking_spelled repos own x = lacking_words (decimal x.0) (decimal x.1.0) (names repos x.1.1.0) (names repos x.1.1.1.0) (names repos x.1.1.1.1.0) (joined_text 44 (candidate_text repos) x.1.1.1.1.1)

lacking_front : (p c : List ℕ) → codes "refused 5 lacking " ++ (p ++ codes " causes=" ++ c) ≡ codes "refused " ++ (codes "5 lacking " ++ p ++ codes " causes=" ++ c)
lacking_front p c = simp append_assoc

abbrev dropped_row : (repos : List RepoView) → AreNamed repos → (own : ℕ) (word : List ℕ) → OutcomeRow repos own word
dropped_row repos named own word = sound_row (ended_text repos word) (IsOutcome repos own) (codes "done ") (dropped repos named) (λ x. outcomes.Dropped (a_proof (λ l. l) x)) refl
    (λ x ok. (ap (λ l. codes "done " ++ l) (proof_spelled repos x), proof_ok repos x ok))

abbrev absent_row : (repos : List RepoView) → AreNamed repos → (own : ℕ) (word : List ℕ) → OutcomeRow repos own word
absent_row repos named own word = sound_row (ended_text repos word) (IsOutcome repos own) (codes "done absent ") (dropped repos named) (λ x. outcomes.DroppedAbsent (a_proof (λ l. l) x)) refl
    (λ x ok. (ap (λ l. codes "done absent " ++ l) (proof_spelled repos x), proof_ok repos x ok))

abbrev got_row : (repos : List RepoView) → AreNamed repos → (own : ℕ) (word : List ℕ) → OutcomeRow repos own word
got_row repos named own word = sound_row (ended_text repos word) (IsOutcome repos own) (codes "done source=") (got repos named) (λ x. outcomes.Got x.0 x.1) refl
    (λ x ok. (got_spelled repos x.0 x.1, ok))

abbrev copied_row : (repos : List RepoView) (own : ℕ) (word : List ℕ) → OutcomeRow repos own word
copied_row repos own word = sound_row (ended_text repos word) (IsOutcome repos own) (codes "done start=") sound_number_or_dash outcomes.Copied refl
    (λ x ok. (ap (λ l. codes "done start=" ++ l) (dash_number x), ok))

abbrev refused_row : (repos : List RepoView) (own : ℕ) (word : List ℕ) {X : Type 0} (mark : List ℕ) (fields : Sound X) (made : X → DropRefusal) → is_one_line mark ≡ true
    → ((x : X) → fields.form.ok x → (codes "refused " ++ mark ++ fields.form.text x ≡ ended_text repos word (outcomes.Refused (made x))) × IsRefusal repos own (made x)) → OutcomeRow repos own word
refused_row repos own word mark fields made plain fits = sound_row (ended_text repos word) (IsOutcome repos own) (codes "refused " ++ mark) fields (λ x. outcomes.Refused (made x)) plain fits

lacking_fits : (repos : List RepoView) → AreNamed repos → (own : ℕ) (word : List ℕ) (x : ℕ × (ℕ × (List ℕ × (List ℕ × (List ℕ × List CandidateCause))))) → (lacking_form repos own).ok x
    → (codes "refused " ++ codes "5 lacking " ++ (lacking_form repos own).text x ≡ ended_text repos word (outcomes.Refused (refusals.Lacking (a_proof (λ y. y.0) x) x.1.1.1.1.1)))
    × IsRefusal repos own (refusals.Lacking (a_proof (λ y. y.0) x) x.1.1.1.1.1)
lacking_fits repos named own word x ok = (
  ap (λ l. codes "refused 5 lacking " ++ l) (lacking_spelled repos own x) ∙ lacking_front (proof_text repos (a_proof (λ y. y.0) x)) (joined_text 44 (candidate_text repos) x.1.1.1.1.1),
  (lacking_ok repos own x ok, ok.1.1.1.1.1),
)

abbrev refused_rows : (repos : List RepoView) → AreNamed repos → (own : ℕ) (word : List ℕ) → List (OutcomeRow repos own word)
refused_rows repos named own word =
    refused_row repos own word (codes "1 notpresent") sound_nothing (λ x. refusals.NotPresent) refl (λ x ok. (refl, tt))
    ∷ refused_row repos own word (codes "2 required ") required refusals.Required refl (λ x ok. (refl, ok))
    ∷ refused_row repos own word (codes "3 held until=") sound_until refusals.Held refl (λ x ok. (refl, ok))
    ∷ refused_row repos own word (codes "4 barred ") sound_small refusals.Barred refl (λ x ok. (refl, ok))
    ∷ refused_row repos own word (codes "5 lacking ") (lacking repos named own) (λ x. refusals.Lacking (a_proof (λ y. y.0) x) x.1.1.1.1.1) refl (lacking_fits repos named own word)
    ∷ refused_row repos own word (codes "6 expired ") expired (λ x. refusals.Expired x.0 x.1) refl (λ x ok. (expired_words (decimal x.0) (decimal x.1), ok))
    ∷ refused_row repos own word (codes "7 denied ") sound_denial refusals.Denied refl (λ x ok. (refl, tt))
    ∷ refused_row repos own word (codes "8 lost ") sound_ordered refusals.Lost refl (λ x ok. (refl, tt))
    ∷ refused_row repos own word (codes "9 oldprotocol ") sound_byte refusals.OldProtocol refl (λ x ok. (refl, ok))
    ∷ refused_row repos own word (codes "10 storefault") sound_nothing (λ x. refusals.StoreFault) refl (λ x ok. (refl, tt))
    ∷ refused_row repos own word (codes "11 crashed") sound_nothing (λ x. refusals.Crashed) refl (λ x ok. (refl, tt))
    ∷ []

transfer_plain : (word mark : List ℕ) → IsWord word → is_one_line mark ≡ true → is_one_line (codes "refused " ++ word ++ mark) ≡ true
transfer_plain word mark is plain = line_append (codes "refused " ++ word) mark (line_append (codes "refused ") word refl (word_line word is)) plain

abbrev moved_row : (repos : List RepoView) (own : ℕ) (word : List ℕ) → IsWord word → {X : Type 0} (mark : List ℕ) (fields : Sound X) (made : X → TransferRefusal) → is_one_line mark ≡ true
    → ((x : X) → fields.form.ok x → (mark ++ fields.form.text x ≡ transfer_text repos (made x)) × IsTransfer repos own (made x)) → OutcomeRow repos own word
moved_row repos own word is mark fields made plain fits = sound_row (ended_text repos word) (IsOutcome repos own) (codes "refused " ++ word ++ mark) fields (λ x. outcomes.TransferRefused (made x))
    (transfer_plain word mark is plain)
    (λ x ok. let h = fits x ok in (append_assoc (codes "refused " ++ word) mark (fields.form.text x) ∙ ap (λ l. codes "refused " ++ word ++ l) h.0, h.1))

abbrev moved_rows : (repos : List RepoView) → AreNamed repos → (own : ℕ) (word : List ℕ) → IsWord word → List (OutcomeRow repos own word)
moved_rows repos named own word is =
    moved_row repos own word is (codes "1 nothere") sound_nothing (λ x. transfers.NotHere) refl (λ x ok. (refl, tt))
    ∷ moved_row repos own word is (codes "2 nosource causes=") (sound_failures repos named own) transfers.NoSource refl (λ x ok. (refl, ok))
    ∷ moved_row repos own word is (codes "3 busy") sound_nothing (λ x. transfers.Busy) refl (λ x ok. (refl, tt))
    ∷ moved_row repos own word is (codes "4 closed") sound_nothing (λ x. transfers.Closed) refl (λ x ok. (refl, tt))
    ∷ moved_row repos own word is (codes "5 rejected") sound_nothing (λ x. transfers.Rejected) refl (λ x ok. (refl, tt))
    ∷ moved_row repos own word is (codes "6 storefault") sound_nothing (λ x. transfers.StoreFault) refl (λ x ok. (refl, tt))
    ∷ moved_row repos own word is (codes "7 crashed") sound_nothing (λ x. transfers.Crashed) refl (λ x ok. (refl, tt))
    ∷ []

abbrev sound_rows : (repos : List RepoView) → AreNamed repos → (own : ℕ) (word : List ℕ) → IsWord word → List (OutcomeRow repos own word)
sound_rows repos named own word is =
    dropped_row repos named own word ∷ absent_row repos named own word ∷ got_row repos named own word ∷ copied_row repos own word ∷ (refused_rows repos named own word ++ moved_rows repos named own word is)

-- ---- each is read by its row

abbrev Reads : List RepoView → ℕ → List ℕ → Outcome → Type 0
Reads repos own word x = by_rows (outcome_rows repos own word) (ended_text repos word x) ≡ Some x

dropped_there : (repos : List RepoView) → AreNamed repos → (own : ℕ) (word : List ℕ) (p : Proof) → IsProof repos p → Reads repos own word (outcomes.Dropped p)
dropped_there repos named own word p ok = reads_at (outcome_rows repos own word) 0 (ended_text repos word (outcomes.Dropped p)) (codes "done ") (proof_form repos (repo_list repos)) (λ x. outcomes.Dropped (a_proof (λ l. l) x)) (dropped repos named).is
    (p.need.n, (p.need.m, (p.locked, (p.trusted, p.recent)))) (ok.need.n_small, (ok.need.m_small, (ok.locked, (ok.trusted, ok.recent))))
    (ap (λ l. codes "done " ++ l) (proof_spelled repos (p.need.n, (p.need.m, (p.locked, (p.trusted, p.recent)))))) refl refl

absent_there : (repos : List RepoView) → AreNamed repos → (own : ℕ) (word : List ℕ) (p : Proof) → IsProof repos p → Reads repos own word (outcomes.DroppedAbsent p)
unfolding behind_mark
absent_there repos named own word p ok = reads_at (outcome_rows repos own word) 1 (ended_text repos word (outcomes.DroppedAbsent p)) (codes "done absent ") (proof_form repos (repo_list repos)) (λ x. outcomes.DroppedAbsent (a_proof (λ l. l) x)) (dropped repos named).is
    (p.need.n, (p.need.m, (p.locked, (p.trusted, p.recent)))) (ok.need.n_small, (ok.need.m_small, (ok.locked, (ok.trusted, ok.recent))))
    (ap (λ l. codes "done absent " ++ l) (proof_spelled repos (p.need.n, (p.need.m, (p.locked, (p.trusted, p.recent)))))) refl refl

got_there : (repos : List RepoView) → AreNamed repos → (own : ℕ) (word : List ℕ) (s t : Option ℕ) → IsOutcome repos own (outcomes.Got s t) → Reads repos own word (outcomes.Got s t)
unfolding behind_mark
got_there repos named own word s t ok = reads_at (outcome_rows repos own word) 2 (ended_text repos word (outcomes.Got s t)) (codes "done source=") (got_form repos) (λ x. outcomes.Got x.0 x.1) (got repos named).is
    (s, t) ok (got_spelled repos s t) refl refl

copied_there : (repos : List RepoView) (own : ℕ) (word : List ℕ) (t : Option ℕ) → IsOutcome repos own (outcomes.Copied t) → Reads repos own word (outcomes.Copied t)
unfolding behind_mark
copied_there repos own word t ok = reads_at (outcome_rows repos own word) 3 (ended_text repos word (outcomes.Copied t)) (codes "done start=") (or_dash large) outcomes.Copied sound_number_or_dash.is
    t ok (ap (λ l. codes "done start=" ++ l) (dash_number t)) refl refl

refused_there : (repos : List RepoView) → AreNamed repos → (own : ℕ) (word : List ℕ) (x : DropRefusal) → IsRefusal repos own x → Reads repos own word (outcomes.Refused x)
unfolding behind_mark
refused_there repos named own word refusals.NotPresent ok = reads_at (outcome_rows repos own word) 4 (ended_text repos word (outcomes.Refused refusals.NotPresent)) (codes "refused 1 notpresent") nothing (λ x. outcomes.Refused refusals.NotPresent) sound_nothing.is tt tt refl refl refl
refused_there repos named own word (refusals.Required e) ok = reads_at (outcome_rows repos own word) 5 (ended_text repos word (outcomes.Refused (refusals.Required e))) (codes "refused 2 required ") (passing is_one_line) (λ x. outcomes.Refused (refusals.Required x)) required.is e ok refl refl refl
refused_there repos named own word (refusals.Held u) ok = reads_at (outcome_rows repos own word) 6 (ended_text repos word (outcomes.Refused (refusals.Held u))) (codes "refused 3 held until=") until_form (λ x. outcomes.Refused (refusals.Held x)) sound_until.is u ok refl refl refl
refused_there repos named own word (refusals.Barred j) ok = reads_at (outcome_rows repos own word) 7 (ended_text repos word (outcomes.Refused (refusals.Barred j))) (codes "refused 4 barred ") small (λ x. outcomes.Refused (refusals.Barred x)) sound_small.is j ok refl refl refl
refused_there repos named own word (refusals.Lacking p reasons) ok = reads_at (outcome_rows repos own word) 8 (ended_text repos word (outcomes.Refused (refusals.Lacking p reasons))) (codes "refused 5 lacking ") (lacking_form repos own) (λ x. outcomes.Refused (refusals.Lacking (a_proof (λ y. y.0) x) x.1.1.1.1.1)) (lacking repos named own).is
    (p.need.n, (p.need.m, (p.locked, (p.trusted, (p.recent, reasons))))) (ok.0.need.n_small, (ok.0.need.m_small, (ok.0.locked, (ok.0.trusted, (ok.0.recent, ok.1)))))
    (ap (λ l. codes "refused 5 lacking " ++ l) (lacking_spelled repos own (p.need.n, (p.need.m, (p.locked, (p.trusted, (p.recent, reasons)))))) ∙ lacking_front (proof_text repos p) (joined_text 44 (candidate_text repos) reasons)) refl refl
refused_there repos named own word (refusals.Expired e c) ok = reads_at (outcome_rows repos own word) 9 (ended_text repos word (outcomes.Refused (refusals.Expired e c))) (codes "refused 6 expired ") expired_form (λ x. outcomes.Refused (refusals.Expired x.0 x.1)) expired.is (e, c) ok (expired_words (decimal e) (decimal c)) refl refl
refused_there repos named own word (refusals.Denied d) ok = reads_at (outcome_rows repos own word) 10 (ended_text repos word (outcomes.Refused (refusals.Denied d))) (codes "refused 7 denied ") denial_form (λ x. outcomes.Refused (refusals.Denied x)) sound_denial.is d tt refl refl refl
refused_there repos named own word (refusals.Lost o) ok = reads_at (outcome_rows repos own word) 11 (ended_text repos word (outcomes.Refused (refusals.Lost o))) (codes "refused 8 lost ") ordered_form (λ x. outcomes.Refused (refusals.Lost x)) sound_ordered.is o tt refl refl refl
refused_there repos named own word (refusals.OldProtocol v) ok = reads_at (outcome_rows repos own word) 12 (ended_text repos word (outcomes.Refused (refusals.OldProtocol v))) (codes "refused 9 oldprotocol ") a_byte (λ x. outcomes.Refused (refusals.OldProtocol x)) sound_byte.is v ok refl refl refl
refused_there repos named own word refusals.StoreFault ok = reads_at (outcome_rows repos own word) 13 (ended_text repos word (outcomes.Refused refusals.StoreFault)) (codes "refused 10 storefault") nothing (λ x. outcomes.Refused refusals.StoreFault) sound_nothing.is tt tt refl refl refl
refused_there repos named own word refusals.Crashed ok = reads_at (outcome_rows repos own word) 14 (ended_text repos word (outcomes.Refused refusals.Crashed)) (codes "refused 11 crashed") nothing (λ x. outcomes.Refused refusals.Crashed) sound_nothing.is tt tt refl refl refl

plain_there : (repos : List RepoView) → AreNamed repos → (own : ℕ) (x : TransferRefusal) → IsTransfer repos own x → Reads repos own [] (outcomes.TransferRefused x)
unfolding behind_mark
plain_there repos named own transfers.NotHere ok = reads_at (outcome_rows repos own []) 15 (codes "refused 1 nothere") (codes "refused 1 nothere") nothing (λ x. outcomes.TransferRefused transfers.NotHere) sound_nothing.is tt tt refl refl refl
plain_there repos named own (transfers.NoSource reasons) ok = reads_at (outcome_rows repos own []) 16 (ended_text repos [] (outcomes.TransferRefused (transfers.NoSource reasons))) (codes "refused 2 nosource causes=") (failures_form repos own) (λ x. outcomes.TransferRefused (transfers.NoSource x)) (sound_failures repos named own).is reasons ok refl refl refl
plain_there repos named own transfers.Busy ok = reads_at (outcome_rows repos own []) 17 (codes "refused 3 busy") (codes "refused 3 busy") nothing (λ x. outcomes.TransferRefused transfers.Busy) sound_nothing.is tt tt refl refl refl
plain_there repos named own transfers.Closed ok = reads_at (outcome_rows repos own []) 18 (codes "refused 4 closed") (codes "refused 4 closed") nothing (λ x. outcomes.TransferRefused transfers.Closed) sound_nothing.is tt tt refl refl refl
plain_there repos named own transfers.Rejected ok = reads_at (outcome_rows repos own []) 19 (codes "refused 5 rejected") (codes "refused 5 rejected") nothing (λ x. outcomes.TransferRefused transfers.Rejected) sound_nothing.is tt tt refl refl refl
plain_there repos named own transfers.StoreFault ok = reads_at (outcome_rows repos own []) 20 (codes "refused 6 storefault") (codes "refused 6 storefault") nothing (λ x. outcomes.TransferRefused transfers.StoreFault) sound_nothing.is tt tt refl refl refl
plain_there repos named own transfers.Crashed ok = reads_at (outcome_rows repos own []) 21 (codes "refused 7 crashed") (codes "refused 7 crashed") nothing (λ x. outcomes.TransferRefused transfers.Crashed) sound_nothing.is tt tt refl refl refl

moved_there : (repos : List RepoView) → AreNamed repos → (own : ℕ) (x : TransferRefusal) → IsTransfer repos own x → Reads repos own (codes "transfer ") (outcomes.TransferRefused x)
unfolding behind_mark
moved_there repos named own transfers.NotHere ok = reads_at (outcome_rows repos own (codes "transfer ")) 15 (codes "refused transfer 1 nothere") (codes "refused transfer 1 nothere") nothing (λ x. outcomes.TransferRefused transfers.NotHere) sound_nothing.is tt tt refl refl refl
moved_there repos named own (transfers.NoSource reasons) ok = reads_at (outcome_rows repos own (codes "transfer ")) 16 (ended_text repos (codes "transfer ") (outcomes.TransferRefused (transfers.NoSource reasons))) (codes "refused transfer 2 nosource causes=") (failures_form repos own) (λ x. outcomes.TransferRefused (transfers.NoSource x)) (sound_failures repos named own).is reasons ok refl refl refl
moved_there repos named own transfers.Busy ok = reads_at (outcome_rows repos own (codes "transfer ")) 17 (codes "refused transfer 3 busy") (codes "refused transfer 3 busy") nothing (λ x. outcomes.TransferRefused transfers.Busy) sound_nothing.is tt tt refl refl refl
moved_there repos named own transfers.Closed ok = reads_at (outcome_rows repos own (codes "transfer ")) 18 (codes "refused transfer 4 closed") (codes "refused transfer 4 closed") nothing (λ x. outcomes.TransferRefused transfers.Closed) sound_nothing.is tt tt refl refl refl
moved_there repos named own transfers.Rejected ok = reads_at (outcome_rows repos own (codes "transfer ")) 19 (codes "refused transfer 5 rejected") (codes "refused transfer 5 rejected") nothing (λ x. outcomes.TransferRefused transfers.Rejected) sound_nothing.is tt tt refl refl refl
moved_there repos named own transfers.StoreFault ok = reads_at (outcome_rows repos own (codes "transfer ")) 20 (codes "refused transfer 6 storefault") (codes "refused transfer 6 storefault") nothing (λ x. outcomes.TransferRefused transfers.StoreFault) sound_nothing.is tt tt refl refl refl
moved_there repos named own transfers.Crashed ok = reads_at (outcome_rows repos own (codes "transfer ")) 21 (codes "refused transfer 7 crashed") (codes "refused transfer 7 crashed") nothing (λ x. outcomes.TransferRefused transfers.Crashed) sound_nothing.is tt tt refl refl refl

transfer_there : (repos : List RepoView) → AreNamed repos → (own : ℕ) (word : List ℕ) → IsWord word → (x : TransferRefusal) → IsTransfer repos own x → Reads repos own word (outcomes.TransferRefused x)
transfer_there repos named own word (inl none) x ok = subst (λ w. Reads repos own w (outcomes.TransferRefused x)) (sym none) (plain_there repos named own x ok)
transfer_there repos named own word (inr some) x ok = subst (λ w. Reads repos own w (outcomes.TransferRefused x)) (sym some) (moved_there repos named own x ok)

outcome_there : (repos : List RepoView) → AreNamed repos → (own : ℕ) (word : List ℕ) → IsWord word → (x : Outcome) → IsOutcome repos own x → Reads repos own word x
outcome_there repos named own word is (outcomes.Dropped p) ok = dropped_there repos named own word p ok
outcome_there repos named own word is (outcomes.DroppedAbsent p) ok = absent_there repos named own word p ok
outcome_there repos named own word is (outcomes.Got s t) ok = got_there repos named own word s t ok
outcome_there repos named own word is (outcomes.Copied t) ok = copied_there repos own word t ok
outcome_there repos named own word is (outcomes.Refused x) ok = refused_there repos named own word x ok
outcome_there repos named own word is (outcomes.TransferRefused x) ok = transfer_there repos named own word is x ok

pub is_outcome_form : (repos : List RepoView) → AreNamed repos → (own : ℕ) (word : List ℕ) → IsWord word → IsForm (outcome_form repos own word)
is_outcome_form repos named own word is = is_table_of (ended_text repos word) (IsOutcome repos own) (sound_rows repos named own word is) (outcome_there repos named own word is)

pub outcome_line : (repos : List RepoView) → AreNamed repos → (own : ℕ) (word : List ℕ) → IsWord word → OneLine (outcome_form repos own word)
outcome_line repos named own word is = line_of_table (ended_text repos word) (IsOutcome repos own) (sound_rows repos named own word is)

abbrev pub sound_outcome : (repos : List RepoView) → AreNamed repos → (own : ℕ) (word : List ℕ) → IsWord word → Sound Outcome
sound_outcome repos named own word is = record { form = outcome_form repos own word; is = is_outcome_form repos named own word is; line = outcome_line repos named own word is }
