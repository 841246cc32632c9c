-- The rows of entries, with the words of moves' transfers by the jobs' numbers, for private contracts.
use Rattle.std.specs.Prelude.{ℕ, Bool, List, [], ◌∷◌, Option, codes}
use Rattle.annex_key.specs.Tree.{Entries}
use Rattle.run_data.specs.declared.run.RepoView.{RepoView}
use Rattle.run_data.specs.declared.entry.By.{By}
use Rattle.run_data.specs.declared.entry.EntryKind.TheVariants as kinds
use Rattle.run_data.specs.declared.job.Outcome.{Outcome}
use Rattle.script_words.specs.Fields.{greatest_offset}
use Rattle.journal_reading.specs.Forms.{Form, Row, number, or_dash, behind, up_to, row}
use Rattle.journal_reading.specs.Fields.{small, large, repo_number, key_last, side_form, file_form}
use Rattle.journal_reading.specs.Kinds.{Did, did, need_up_to, outcome_form, begin_form, gain_form, share_form, release_form, check_form, bar_form, order_form, gone_form, log_form, close_form, fault_form}

-- ---- parts of lines

abbrev pub size_form : Form (ℕ × List ℕ)
size_form = behind (codes "size=") (up_to 32 large (λ n. key_last))

abbrev pub hold_end_form : List RepoView → Form (ℕ × (By × List ℕ))
hold_end_form repos = behind (codes "end=") (up_to 32 large (λ e. behind (codes "for=") (gone_form repos)))

abbrev pub need_form : Form (ℕ × (ℕ × List ℕ))
need_form = need_up_to key_last

abbrev pub deadline_form : Form (Option ℕ × (ℕ × (ℕ × List ℕ)))
deadline_form = behind (codes "deadline=") (up_to 32 (or_dash large) (λ d. need_form))

abbrev pub target_form : List RepoView → Form (ℕ × (Option ℕ × (ℕ × (ℕ × List ℕ))))
target_form repos = behind (codes "target=") (up_to 32 (repo_number repos) (λ t. deadline_form))

-- ---- rows

abbrev pub gain_row : List RepoView → Row Did
gain_row repos = row (codes "gain by=") (gain_form repos) (did (λ x. kinds.Gain x.0 x.1.0 x.1.1))

abbrev pub share_row : List RepoView → Row Did
share_row repos = row (codes "share hold=") (share_form repos) (did (λ x. kinds.Share x.0 x.1.0 x.1.1.0 x.1.1.1))

abbrev pub release_row : Row Did
release_row = row (codes "release hold=") release_form (did (λ x. kinds.Release x.0 x.1))

abbrev pub check_row : Row Did
check_row = row (codes "check found=") check_form (did (λ x. kinds.Check x.0 x.1))

abbrev pub bar_row : Row Did
bar_row = row (codes "bar ") bar_form (did (λ x. kinds.Bar x.0 (record { n = x.1.0; m = x.1.1.0 }) x.1.1.1))

abbrev pub order_row : List RepoView → Row Did
order_row repos = row (codes "order ") (order_form repos) (did (λ x. kinds.Order x.0 x.1.0 x.1.1.0 (record { n = x.1.1.1.0; m = x.1.1.1.1.0 }) x.1.1.1.1.1))

abbrev pub gone_row : List RepoView → Row Did
gone_row repos = row (codes "gone by=") (gone_form repos) (did (λ x. kinds.Gone x.0 x.1))

abbrev pub begin_row : List RepoView → Entries → ℕ → Row Did
begin_row repos tree r = row (codes "begin ") (begin_form repos tree r) (did (λ x. kinds.Begin x.0 x.1))

abbrev pub log_row : Row Did
log_row = row (codes "log ") log_form (λ x. (kinds.Log x.1, x.0))

abbrev pub compact_row : Row Did
compact_row = row (codes "compact ") file_form (did kinds.Compact)

abbrev pub talk_row : Row Did
talk_row = row (codes "talk ") (or_dash small) (did kinds.Talk)

abbrev pub close_row : List RepoView → Row Did
close_row repos = row (codes "close peer=") (close_form repos) (did (λ x. kinds.Close x.0 x.1.0 x.1.1))

abbrev pub slot_form : Form (ℕ × Bool)
slot_form = behind (codes "slot=") (up_to 32 small (λ s. behind (codes "side=") side_form))

abbrev pub crash_row : Row Did
crash_row = row (codes "crash clock=") (number greatest_offset) (did kinds.Crash)

abbrev pub fault_row : List RepoView → Row Did
fault_row repos = row (codes "fault ") (fault_form repos) (did (λ x. kinds.Fault x.0 x.1))

-- how job j ended is said with the word that stands here for it
abbrev pub end_by : List RepoView → (ℕ → List ℕ) → ℕ → Form (ℕ × Outcome)
end_by repos word r = up_to 32 small (λ j. outcome_form repos r (word j))

abbrev pub end_row : List RepoView → (ℕ → List ℕ) → ℕ → Row Did
end_row repos word r = row (codes "end ") (end_by repos word r) (did (λ x. kinds.End x.0 x.1))

-- ---- tables

abbrev pub rows_from_crash : List RepoView → (ℕ → List ℕ) → ℕ → List (Row Did)
rows_from_crash repos word r = crash_row ∷ fault_row repos ∷ end_row repos word r ∷ []

abbrev pub rows_from_log : List RepoView → (ℕ → List ℕ) → ℕ → List (Row Did)
rows_from_log repos word r = log_row ∷ compact_row ∷ talk_row ∷ close_row repos ∷ rows_from_crash repos word r

abbrev pub rows_from_check : List RepoView → (ℕ → List ℕ) → ℕ → List (Row Did)
rows_from_check repos word r = check_row ∷ bar_row ∷ order_row repos ∷ gone_row repos ∷ rows_from_log repos word r

abbrev pub rows_by : List RepoView → Entries → (ℕ → List ℕ) → ℕ → List (Row Did)
rows_by repos tree word r = begin_row repos tree r ∷ gain_row repos ∷ share_row repos ∷ release_row ∷ rows_from_check repos word r

-- all but the last
abbrev pub rows_before : List RepoView → Entries → ℕ → List (Row Did)
rows_before repos tree r =
    begin_row repos tree r ∷ gain_row repos ∷ share_row repos ∷ release_row ∷ check_row ∷ bar_row ∷ order_row repos ∷ gone_row repos
    ∷ log_row ∷ compact_row ∷ talk_row ∷ close_row repos ∷ crash_row ∷ fault_row repos ∷ []
