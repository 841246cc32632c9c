-- The forms of a journal's entries (own): a row for each kind, with the mark that it begins with, and its fields.
use Rattle.std.specs.Prelude.{◌≡◌, ℕ, ◌<◌, ◌≤◌, ◌+◌, Bool, true, false, not, ◌==◌, List, [], ◌∷◌, ◌++◌, map, length, Option, Some, None, codes, if◌then◌else◌}
use Rattle.annex_base.specs.Lines.{is_one_line}
use Rattle.annex_base.specs.declared.kinds.Call.{Call}
use Rattle.annex_base.specs.declared.kinds.Found.{Found}
use Rattle.annex_key.specs.Tree.{Entries}
use Rattle.run_data.specs.declared.run.RepoView.{RepoView}
use Rattle.run_data.specs.declared.entry.Entry.{Entry}
use Rattle.run_data.specs.declared.entry.EntryKind.{EntryKind}
use Rattle.run_data.specs.declared.entry.EntryKind.TheVariants as kinds
use Rattle.run_data.specs.declared.entry.By.{By}
use Rattle.run_data.specs.declared.entry.LogFile.{LogFile}
use Rattle.run_data.specs.declared.job.Job.{Job}
use Rattle.run_data.specs.declared.job.JobKind.{JobKind}
use Rattle.run_data.specs.declared.job.JobKind.TheVariants as jobs
use Rattle.run_data.specs.declared.job.Proof.{Proof}
use Rattle.run_data.specs.declared.job.Cause.{Cause}
use Rattle.run_data.specs.declared.job.Cause.TheVariants as causes
use Rattle.run_data.specs.declared.job.CandidateCause.{CandidateCause}
use Rattle.run_data.specs.declared.job.Denial.{Denial}
use Rattle.run_data.specs.declared.job.Denial.TheVariants as denials
use Rattle.run_data.specs.declared.job.DropRefusal.{DropRefusal}
use Rattle.run_data.specs.declared.job.DropRefusal.TheVariants as refusals
use Rattle.run_data.specs.declared.job.TransferRefusal.{TransferRefusal}
use Rattle.run_data.specs.declared.job.TransferRefusal.TheVariants as transfers
use Rattle.run_data.specs.declared.job.SourceCause.{SourceCause}
use Rattle.run_data.specs.declared.job.SourceCause.TheVariants as sources
use Rattle.run_data.specs.declared.job.SourceFailure.{SourceFailure}
use Rattle.run_data.specs.declared.job.Outcome.{Outcome}
use Rattle.run_data.specs.declared.job.Outcome.TheVariants as outcomes
use Rattle.run_text.specs.Words.{number_or_dash}
use Rattle.run_text.specs.Names.{name_of, name_or_dash}
use Rattle.run_text.specs.Outcomes.{proof_text, candidate_text, cause_text, until_text, denial_text, ordered_text, refusal_text, source_text, failure_text, transfer_text, transfer_word_of}
use Rattle.script_words.specs.Fields.{greatest_offset}
use Rattle.run_model.specs.Past.{begun_job}
use Rattle.run_text.specs.Jobs.{job_text}
use Rattle.journal_text.specs.Journal.{kind_text}
use Rattle.journal_reading.specs.Forms.{Form, Row, number, one_of, passing, nothing, or_dash, behind, up_to, joined, row, table, tested}
use Rattle.journal_reading.specs.Fields.{small, large, a_byte, repo_number, other_number, rises, repo_list, key, key_last, by_form, other_by, found_form, side_form, call_form, file_form, keyed, IsNamedKey, IsBy, IsOther, IsFile}

-- ---- jobs

abbrev pub a_job : JobKind → (List ℕ × Option (List ℕ)) → Option ℕ → Job
a_job kind k peer = record { kind = kind; key = k.0; path = k.1; peer = peer }

-- `from` and another repository, `to` and another one
abbrev pub peer_by : List RepoView → ℕ → List ℕ → Form ℕ
peer_by repos r way = behind way (other_number repos r)

-- the mark of a job of repository r
abbrev pub job_mark : List RepoView → ℕ → List ℕ → List ℕ
job_mark repos r word = word ++ name_of repos r ++ codes " "

abbrev pub job_alone : List RepoView → Entries → ℕ → List ℕ → JobKind → Row Job
job_alone repos tree r word kind = row (job_mark repos r word) (keyed tree nothing) (λ x. a_job kind x.0 None)

abbrev pub job_with : List RepoView → Entries → ℕ → List ℕ → List ℕ → JobKind → Row Job
job_with repos tree r word way kind = row (job_mark repos r word) (keyed tree (peer_by repos r way)) (λ x. a_job kind x.0 (Some x.1))

abbrev pub job_rows : List RepoView → Entries → ℕ → List (Row Job)
job_rows repos tree r =
    job_alone repos tree r (codes "drop ") jobs.Drop
    ∷ job_with repos tree r (codes "drop ") (codes " from ") jobs.Drop
    ∷ job_alone repos tree r (codes "get ") jobs.Get
    ∷ job_with repos tree r (codes "get ") (codes " from ") jobs.Get
    ∷ job_with repos tree r (codes "copy ") (codes " to ") jobs.Copy
    ∷ job_with repos tree r (codes "move ") (codes " to ") jobs.MoveTo
    ∷ job_with repos tree r (codes "move ") (codes " from ") jobs.MoveFrom
    ∷ []

-- ---- outcomes

abbrev pub need_up_to : {X : Type 0} → Form X → Form (ℕ × (ℕ × X))
need_up_to next = behind (codes "need=") (up_to 44 small (λ n. up_to 32 small (λ m. next)))

-- a proof, by the form of its last list and of what follows
abbrev pub proof_form : {X : Type 0} → List RepoView → Form X → Form (ℕ × (ℕ × (List ℕ × (List ℕ × X))))
proof_form repos last = need_up_to (behind (codes "locked=") (up_to 32 (repo_list repos) (λ l. behind (codes "trusted=") (up_to 32 (repo_list repos) (λ t. behind (codes "recent=") last)))))

abbrev pub a_proof : {X : Type 0} → (X → List ℕ) → (ℕ × (ℕ × (List ℕ × (List ℕ × X)))) → Proof
a_proof recent x = record { need = record { n = x.0; m = x.1.0 }; locked = x.1.1.0; trusted = x.1.1.1.0; recent = recent x.1.1.1.1 }

abbrev pub cause_form : Form Cause
cause_form = one_of cause_text (causes.Absent ∷ causes.Barred ∷ causes.Fault ∷ causes.Closed ∷ causes.Untrusted ∷ causes.Dead ∷ [])

abbrev pub source_form : Form SourceCause
source_form = one_of source_text (sources.Absent ∷ sources.Closed ∷ sources.Wrong ∷ sources.Invalid ∷ [])

-- a repository and why, with a colon between
abbrev pub a_candidate : (ℕ × Cause) → CandidateCause
a_candidate x = record { repo = x.0; cause = x.1 }

abbrev pub a_failure : (ℕ × SourceCause) → SourceFailure
a_failure x = record { repo = x.0; cause = x.1 }

abbrev pub candidate_form : List RepoView → Form CandidateCause
candidate_form repos = table (candidate_text repos) (row [] (up_to 58 (repo_number repos) (λ r. cause_form)) a_candidate ∷ []) (λ x. x.repo < length repos)

abbrev pub failure_form : List RepoView → Form SourceFailure
failure_form repos = table (failure_text repos) (row [] (up_to 58 (repo_number repos) (λ r. source_form)) a_failure ∷ []) (λ x. x.repo < length repos)

-- the own repository comes first, and then peers by number
abbrev pub rank : ℕ → ℕ → ℕ
rank own r = if own == r then 0 else r + 1

abbrev pub candidates_form : List RepoView → ℕ → Form (List CandidateCause)
candidates_form repos own = tested (λ xs. rises (map (λ x. rank own x.repo) xs)) (joined 44 (candidate_form repos))

abbrev pub failures_form : List RepoView → ℕ → Form (List SourceFailure)
failures_form repos own = tested (λ xs. rises (map (λ x. rank own x.repo) xs)) (joined 44 (failure_form repos))

abbrev pub IsUntil : Option ℕ → Type 0
IsUntil None = Unit {0}
IsUntil (Some end) = large.ok end

abbrev pub until_form : Form (Option ℕ)
until_form = table until_text (row (codes "open") nothing (λ x. None) ∷ row [] large Some ∷ []) IsUntil

abbrev pub denial_form : Form Denial
denial_form = one_of denial_text (denials.Late ∷ denials.Barred ∷ denials.Held ∷ denials.Fault ∷ [])

abbrev pub ordered_form : Form Bool
ordered_form = one_of ordered_text (true ∷ false ∷ [])

abbrev pub drop_row : {X : Type 0} → List ℕ → Form X → (X → DropRefusal) → Row Outcome
drop_row mark form made = row (codes "refused " ++ mark) form (λ x. outcomes.Refused (made x))

-- behind this word, which a move has
abbrev pub transfer_row : {X : Type 0} → List ℕ → List ℕ → Form X → (X → TransferRefusal) → Row Outcome
transfer_row word mark form made = row (codes "refused " ++ word ++ mark) form (λ x. outcomes.TransferRefused (made x))

abbrev pub got_form : List RepoView → Form (Option ℕ × Option ℕ)
got_form repos = up_to 32 (or_dash (repo_number repos)) (λ s. behind (codes "start=") (or_dash large))

abbrev pub lacking_form : List RepoView → ℕ → Form (ℕ × (ℕ × (List ℕ × (List ℕ × (List ℕ × List CandidateCause)))))
lacking_form repos own = proof_form repos (up_to 32 (repo_list repos) (λ l. behind (codes "causes=") (candidates_form repos own)))

abbrev pub expired_form : Form (ℕ × ℕ)
expired_form = up_to 32 large (λ e. large)

abbrev pub done_rows : List RepoView → List (Row Outcome)
done_rows repos =
    row (codes "done ") (proof_form repos (repo_list repos)) (λ x. outcomes.Dropped (a_proof (λ l. l) x))
    ∷ row (codes "done absent ") (proof_form repos (repo_list repos)) (λ x. outcomes.DroppedAbsent (a_proof (λ l. l) x))
    ∷ row (codes "done source=") (got_form repos) (λ x. outcomes.Got x.0 x.1)
    ∷ row (codes "done start=") (or_dash large) outcomes.Copied
    ∷ []

abbrev pub drop_rows : List RepoView → ℕ → List (Row Outcome)
drop_rows repos own =
    drop_row (codes "1 notpresent") nothing (λ x. refusals.NotPresent)
    ∷ drop_row (codes "2 required ") (passing is_one_line) refusals.Required
    ∷ drop_row (codes "3 held until=") until_form refusals.Held
    ∷ drop_row (codes "4 barred ") small refusals.Barred
    ∷ drop_row (codes "5 lacking ") (lacking_form repos own) (λ x. refusals.Lacking (a_proof (λ y. y.0) x) x.1.1.1.1.1)
    ∷ drop_row (codes "6 expired ") expired_form (λ x. refusals.Expired x.0 x.1)
    ∷ drop_row (codes "7 denied ") denial_form refusals.Denied
    ∷ drop_row (codes "8 lost ") ordered_form refusals.Lost
    ∷ drop_row (codes "9 oldprotocol ") a_byte refusals.OldProtocol
    ∷ drop_row (codes "10 storefault") nothing (λ x. refusals.StoreFault)
    ∷ drop_row (codes "11 crashed") nothing (λ x. refusals.Crashed)
    ∷ []

abbrev pub transfer_rows : List RepoView → ℕ → List ℕ → List (Row Outcome)
transfer_rows repos own word =
    transfer_row word (codes "1 nothere") nothing (λ x. transfers.NotHere)
    ∷ transfer_row word (codes "2 nosource causes=") (failures_form repos own) transfers.NoSource
    ∷ transfer_row word (codes "3 busy") nothing (λ x. transfers.Busy)
    ∷ transfer_row word (codes "4 closed") nothing (λ x. transfers.Closed)
    ∷ transfer_row word (codes "5 rejected") nothing (λ x. transfers.Rejected)
    ∷ transfer_row word (codes "6 storefault") nothing (λ x. transfers.StoreFault)
    ∷ transfer_row word (codes "7 crashed") nothing (λ x. transfers.Crashed)
    ∷ []

-- how a job of repository `own` ended, behind its number and a space; the word is that of a move's transfer
abbrev pub outcome_rows : List RepoView → ℕ → List ℕ → List (Row Outcome)
outcome_rows repos own word = done_rows repos ++ (drop_rows repos own ++ transfer_rows repos own word)

-- the text of a refusal, with this word before that of a transfer
abbrev pub ended_text : List RepoView → List ℕ → Outcome → List ℕ
ended_text repos word (outcomes.Dropped proof) = codes "done " ++ proof_text repos proof
ended_text repos word (outcomes.DroppedAbsent proof) = codes "done absent " ++ proof_text repos proof
ended_text repos word (outcomes.Got source start) = codes "done source=" ++ name_or_dash repos source ++ codes " start=" ++ number_or_dash start
ended_text repos word (outcomes.Copied start) = codes "done start=" ++ number_or_dash start
ended_text repos word (outcomes.Refused refusal) = codes "refused " ++ refusal_text repos refusal
ended_text repos word (outcomes.TransferRefused refusal) = codes "refused " ++ word ++ transfer_text repos refusal

-- what an entry did, and how many lines it adds
abbrev pub Did : Type 0
Did = EntryKind × ℕ

-- ---- what may be written so

abbrev pub IsPeer : List RepoView → ℕ → JobKind → Option ℕ → Type 0
IsPeer repos r jobs.Drop None = Unit {0}
IsPeer repos r jobs.Get None = Unit {0}
IsPeer repos r jobs.Copy None = ⊥
IsPeer repos r jobs.MoveTo None = ⊥
IsPeer repos r jobs.MoveFrom None = ⊥
IsPeer repos r kind (Some p) = (p < length repos) × (not (r == p) ≡ true)

pub record IsJob (repos : List RepoView) (tree : Entries) (r : ℕ) (job : Job) : Type 0 where
  pub key : IsNamedKey tree job.key job.path
  pub peer : IsPeer repos r job.kind job.peer

pub record IsNeed (n m : ℕ) : Type 0 where
  pub n_small : n ≤ 4294967295
  pub m_small : m ≤ 4294967295

pub record IsProof (repos : List RepoView) (proof : Proof) : Type 0 where
  pub need : IsNeed proof.need.n proof.need.m
  pub locked : (repo_list repos).ok proof.locked
  pub trusted : (repo_list repos).ok proof.trusted
  pub recent : (repo_list repos).ok proof.recent

abbrev pub IsRefusal : List RepoView → ℕ → DropRefusal → Type 0
IsRefusal repos own refusals.NotPresent = Unit {0}
IsRefusal repos own (refusals.Required expression) = is_one_line expression ≡ true
IsRefusal repos own (refusals.Held until) = IsUntil until
IsRefusal repos own (refusals.Barred job) = small.ok job
IsRefusal repos own (refusals.Lacking proof reasons) = IsProof repos proof × (candidates_form repos own).ok reasons
IsRefusal repos own (refusals.Expired end clock) = large.ok end × large.ok clock
IsRefusal repos own (refusals.Denied answer) = Unit {0}
IsRefusal repos own (refusals.Lost ordered) = Unit {0}
IsRefusal repos own (refusals.OldProtocol version) = a_byte.ok version
IsRefusal repos own refusals.StoreFault = Unit {0}
IsRefusal repos own refusals.Crashed = Unit {0}

abbrev pub IsTransfer : List RepoView → ℕ → TransferRefusal → Type 0
IsTransfer repos own (transfers.NoSource reasons) = (failures_form repos own).ok reasons
IsTransfer repos own _ = Unit {0}

abbrev pub IsOutcome : List RepoView → ℕ → Outcome → Type 0
IsOutcome repos own (outcomes.Dropped proof) = IsProof repos proof
IsOutcome repos own (outcomes.DroppedAbsent proof) = IsProof repos proof
IsOutcome repos own (outcomes.Got source start) = (or_dash (repo_number repos)).ok source × (or_dash large).ok start
IsOutcome repos own (outcomes.Copied start) = (or_dash large).ok start
IsOutcome repos own (outcomes.Refused refusal) = IsRefusal repos own refusal
IsOutcome repos own (outcomes.TransferRefused refusal) = IsTransfer repos own refusal

-- what an entry of repository r may have done
abbrev pub IsKind : List RepoView → Entries → ℕ → EntryKind → Type 0
IsKind repos tree r (kinds.Begin j what) = small.ok j × IsJob repos tree r what
IsKind repos tree r (kinds.Gain by size k) = IsBy repos by × large.ok size × key.ok k
IsKind repos tree r (kinds.Share hold end by k) = large.ok hold × large.ok end × IsOther repos by × key.ok k
IsKind repos tree r (kinds.Release hold k) = large.ok hold × key.ok k
IsKind repos tree r (kinds.Check found k) = key.ok k
IsKind repos tree r (kinds.Bar j need k) = small.ok j × IsNeed need.n need.m × key.ok k
IsKind repos tree r (kinds.Order j target deadline need k) = small.ok j × (target < length repos) × (or_dash large).ok deadline × IsNeed need.n need.m × key.ok k
IsKind repos tree r (kinds.Gone by k) = IsOther repos by × key.ok k
IsKind repos tree r (kinds.Log file) = IsFile file
IsKind repos tree r (kinds.Compact file) = IsFile file
IsKind repos tree r (kinds.Talk job) = (or_dash small).ok job
IsKind repos tree r (kinds.Close peer slot client) = (peer < length repos) × small.ok slot
IsKind repos tree r (kinds.Crash clock) = clock ≤ greatest_offset
IsKind repos tree r (kinds.Wait milliseconds) = ⊥
IsKind repos tree r (kinds.Fault call by) = IsBy repos by
IsKind repos tree r (kinds.End j outcome) = small.ok j × IsOutcome repos r outcome

-- exactly the waits have no repository
abbrev pub IsKindOf : List RepoView → Entries → Option ℕ → EntryKind → Type 0
IsKindOf repos tree (Some r) kind = IsKind repos tree r kind
IsKindOf repos tree None (kinds.Wait milliseconds) = large.ok milliseconds
IsKindOf repos tree None _ = ⊥

-- only entries `log` add lines
abbrev pub MayAdd : EntryKind → ℕ → Type 0
MayAdd (kinds.Log file) n = large.ok n
MayAdd _ n = n ≡ 0

abbrev pub IsDid : List RepoView → Entries → Option ℕ → Did → Type 0
IsDid repos tree repo x = IsKindOf repos tree repo x.0 × MayAdd x.0 x.1

-- which jobs, and which outcomes, a row reads back
abbrev pub job_form : List RepoView → Entries → ℕ → Form Job
job_form repos tree r = table (job_text repos r) (job_rows repos tree r) (IsJob repos tree r)

abbrev pub outcome_form : List RepoView → ℕ → List ℕ → Form Outcome
outcome_form repos own word = table (ended_text repos word) (outcome_rows repos own word) (IsOutcome repos own)

-- ---- entries

abbrev pub begin_form : List RepoView → Entries → ℕ → Form (ℕ × Job)
begin_form repos tree r = up_to 32 small (λ j. job_form repos tree r)

abbrev pub gain_form : List RepoView → Form (By × (ℕ × List ℕ))
gain_form repos = up_to 32 (by_form repos) (λ b. behind (codes "size=") (up_to 32 large (λ n. key_last)))

abbrev pub share_form : List RepoView → Form (ℕ × (ℕ × (By × List ℕ)))
share_form repos = up_to 32 large (λ h. behind (codes "end=") (up_to 32 large (λ e. behind (codes "for=") (up_to 32 (other_by repos) (λ b. key_last)))))

abbrev pub release_form : Form (ℕ × List ℕ)
release_form = up_to 32 large (λ h. key_last)

abbrev pub check_form : Form (Found × List ℕ)
check_form = up_to 32 found_form (λ f. key_last)

abbrev pub bar_form : Form (ℕ × (ℕ × (ℕ × List ℕ)))
bar_form = up_to 32 small (λ j. need_up_to key_last)

abbrev pub order_form : List RepoView → Form (ℕ × (ℕ × (Option ℕ × (ℕ × (ℕ × List ℕ)))))
order_form repos = up_to 32 small (λ j. behind (codes "target=") (up_to 32 (repo_number repos) (λ t. behind (codes "deadline=") (up_to 32 (or_dash large) (λ d. need_up_to key_last)))))

abbrev pub gone_form : List RepoView → Form (By × List ℕ)
gone_form repos = up_to 32 (other_by repos) (λ b. key_last)

abbrev pub log_form : Form (ℕ × LogFile)
log_form = up_to 32 large (λ n. file_form)

abbrev pub close_form : List RepoView → Form (ℕ × (ℕ × Bool))
close_form repos = up_to 32 (repo_number repos) (λ p. behind (codes "slot=") (up_to 32 small (λ s. behind (codes "side=") side_form)))

abbrev pub fault_form : List RepoView → Form (Call × By)
fault_form repos = up_to 32 call_form (λ c. by_form repos)

-- after these entries (the newest first)
abbrev pub end_form : List RepoView → List Entry → ℕ → Form (ℕ × Outcome)
end_form repos past r = up_to 32 small (λ j. outcome_form repos r (transfer_word_of (begun_job past r j)))

abbrev pub did : {X : Type 0} → (X → EntryKind) → X → Did
did made x = (made x, 0)

-- the rows of a repository's entries
abbrev pub kind_rows : List RepoView → Entries → List Entry → ℕ → List (Row Did)
kind_rows repos tree past r =
    row (codes "begin ") (begin_form repos tree r) (did (λ x. kinds.Begin x.0 x.1))
    ∷ row (codes "gain by=") (gain_form repos) (did (λ x. kinds.Gain x.0 x.1.0 x.1.1))
    ∷ row (codes "share hold=") (share_form repos) (did (λ x. kinds.Share x.0 x.1.0 x.1.1.0 x.1.1.1))
    ∷ row (codes "release hold=") release_form (did (λ x. kinds.Release x.0 x.1))
    ∷ row (codes "check found=") check_form (did (λ x. kinds.Check x.0 x.1))
    ∷ row (codes "bar ") bar_form (did (λ x. kinds.Bar x.0 (record { n = x.1.0; m = x.1.1.0 }) x.1.1.1))
    ∷ row (codes "order ") (order_form repos) (did (λ x. kinds.Order x.0 x.1.0 x.1.1.0 (record { n = x.1.1.1.0; m = x.1.1.1.1.0 }) x.1.1.1.1.1))
    ∷ row (codes "gone by=") (gone_form repos) (did (λ x. kinds.Gone x.0 x.1))
    ∷ row (codes "log ") log_form (λ x. (kinds.Log x.1, x.0))
    ∷ row (codes "compact ") file_form (did kinds.Compact)
    ∷ row (codes "talk ") (or_dash small) (did kinds.Talk)
    ∷ row (codes "close peer=") (close_form repos) (did (λ x. kinds.Close x.0 x.1.0 x.1.1))
    ∷ row (codes "crash clock=") (number greatest_offset) (did kinds.Crash)
    ∷ row (codes "fault ") (fault_form repos) (did (λ x. kinds.Fault x.0 x.1))
    ∷ row (codes "end ") (end_form repos past r) (did (λ x. kinds.End x.0 x.1))
    ∷ []

abbrev pub wait_rows : List (Row Did)
wait_rows = row (codes "wait ") large (did kinds.Wait) ∷ []

-- exactly the waits have no repository
abbrev pub rows_of : List RepoView → Entries → List Entry → Option ℕ → List (Row Did)
rows_of repos tree past None = wait_rows
rows_of repos tree past (Some r) = kind_rows repos tree past r

-- what an entry did, behind its repository
abbrev pub did_form : List RepoView → Entries → List Entry → Option ℕ → Form Did
did_form repos tree past repo = table (λ x. kind_text repos past repo x.1 x.0) (rows_of repos tree past repo) (IsDid repos tree repo)
