-- The parts of the forms of jobs and outcomes that are read by a function of their own, for private contracts.
use Rattle.std.specs.Prelude.{ℕ, List, [], ◌∷◌, ◌++◌, Option, codes}
use Rattle.std.specs.Option.{option_or}
use Rattle.annex_base.specs.Lines.{is_one_line}
use Rattle.annex_base.specs.OptionSteps.{◌>>=◌}
use Rattle.annex_key.specs.Tree.{Entries}
use Rattle.run_data.specs.declared.run.RepoView.{RepoView}
use Rattle.run_data.specs.declared.job.Job.{Job}
use Rattle.run_data.specs.declared.job.JobKind.TheVariants as jobs
use Rattle.run_data.specs.declared.job.CandidateCause.{CandidateCause}
use Rattle.run_data.specs.declared.job.DropRefusal.{DropRefusal}
use Rattle.run_data.specs.declared.job.DropRefusal.TheVariants as refusals
use Rattle.run_data.specs.declared.job.TransferRefusal.{TransferRefusal}
use Rattle.run_data.specs.declared.job.TransferRefusal.TheVariants as transfers
use Rattle.run_data.specs.declared.job.Outcome.{Outcome}
use Rattle.run_data.specs.declared.job.Outcome.TheVariants as outcomes
use Rattle.script_words.specs.Marks.{behind_mark}
use Rattle.journal_reading.specs.Forms.{Form, Row, passing, nothing, behind, up_to, by_rows, row}
use Rattle.journal_reading.specs.Fields.{small, a_byte, repo_list}
use Rattle.journal_reading.specs.Kinds.{a_proof, candidates_form, failures_form, until_form, denial_form, ordered_form, expired_form, lacking_form, done_rows, job_with}

-- ---- jobs

-- the jobs that always name a peer
abbrev pub later_jobs : List RepoView → Entries → ℕ → List (Row Job)
later_jobs repos tree r =
    job_with repos tree r (codes "copy ") (codes " to ") jobs.Copy
    ∷ job_with repos tree r (codes "move ") (codes " to ") jobs.MoveTo
    ∷ job_with repos tree r (codes "move ") (codes " from ") jobs.MoveFrom
    ∷ []

-- ---- proofs

-- a form of which the reading alone counts
abbrev pub reading : {X : Type 0} → (List ℕ → Option X) → Form X
reading read = record { text = λ x. []; read = read; ok = λ x. Unit {0} }

-- of a proof's text, from `trusted=` on, and from `locked=` on; what stands behind `recent=` is read so
abbrev pub trusted_form : {X : Type 0} → List RepoView → (List ℕ → Option X) → Form (List ℕ × X)
trusted_form repos read = behind (codes "trusted=") (up_to 32 (repo_list repos) (λ t. behind (codes "recent=") (reading read)))

abbrev pub locked_form : {X : Type 0} → List RepoView → (List ℕ → Option X) → Form (List ℕ × (List ℕ × X))
locked_form repos read = behind (codes "locked=") (up_to 32 (repo_list repos) (λ l. trusted_form repos read))

-- of a lacking proof, what stands behind `recent=`
abbrev pub causes_form : List RepoView → ℕ → Form (List ℕ × List CandidateCause)
causes_form repos own = up_to 32 (repo_list repos) (λ l. behind (codes "causes=") (candidates_form repos own))

-- ---- rows behind a mark that they share

abbrev pub marked : {A : Type 0} → List ℕ → Row A → Row A
marked mark r = record { mark = mark ++ r.mark; read = r.read }

abbrev pub refused : {X : Type 0} → List ℕ → Form X → (X → DropRefusal) → Row Outcome
refused mark form made = row mark form (λ x. outcomes.Refused (made x))

abbrev pub last_refusals : List (Row Outcome)
last_refusals =
    refused (codes "8 lost ") ordered_form refusals.Lost
    ∷ refused (codes "9 oldprotocol ") a_byte refusals.OldProtocol
    ∷ refused (codes "10 storefault") nothing (λ x. refusals.StoreFault)
    ∷ refused (codes "11 crashed") nothing (λ x. refusals.Crashed)
    ∷ []

abbrev pub later_refusals : List RepoView → ℕ → List (Row Outcome)
later_refusals repos own =
    refused (codes "5 lacking ") (lacking_form repos own) (λ x. refusals.Lacking (a_proof (λ y. y.0) x) x.1.1.1.1.1)
    ∷ refused (codes "6 expired ") expired_form (λ x. refusals.Expired x.0 x.1)
    ∷ refused (codes "7 denied ") denial_form refusals.Denied
    ∷ last_refusals

-- the refusals of drops, behind `refused `
abbrev pub refusal_rows : List RepoView → ℕ → List (Row Outcome)
refusal_rows repos own =
    refused (codes "1 notpresent") nothing (λ x. refusals.NotPresent)
    ∷ refused (codes "2 required ") (passing is_one_line) refusals.Required
    ∷ refused (codes "3 held until=") until_form refusals.Held
    ∷ refused (codes "4 barred ") small refusals.Barred
    ∷ later_refusals repos own

abbrev pub transfer_refused : {X : Type 0} → List ℕ → Form X → (X → TransferRefusal) → Row Outcome
transfer_refused mark form made = row mark form (λ x. outcomes.TransferRefused (made x))

abbrev pub later_transfers : List (Row Outcome)
later_transfers =
    transfer_refused (codes "3 busy") nothing (λ x. transfers.Busy)
    ∷ transfer_refused (codes "4 closed") nothing (λ x. transfers.Closed)
    ∷ transfer_refused (codes "5 rejected") nothing (λ x. transfers.Rejected)
    ∷ transfer_refused (codes "6 storefault") nothing (λ x. transfers.StoreFault)
    ∷ transfer_refused (codes "7 crashed") nothing (λ x. transfers.Crashed)
    ∷ []

-- the refusals of transfers, behind `refused ` and the word of a move's transfer
abbrev pub refused_transfers : List RepoView → ℕ → List (Row Outcome)
refused_transfers repos own =
    transfer_refused (codes "1 nothere") nothing (λ x. transfers.NotHere)
    ∷ transfer_refused (codes "2 nosource causes=") (failures_form repos own) transfers.NoSource
    ∷ later_transfers

-- ---- outcomes

-- behind `refused `
abbrev pub refused_at : List RepoView → ℕ → List ℕ → List ℕ → Option Outcome
refused_at repos own word bytes = option_or (by_rows (refusal_rows repos own) bytes) (behind_mark word bytes >>= by_rows (refused_transfers repos own))

abbrev pub ended_at : List RepoView → ℕ → List ℕ → List ℕ → Option Outcome
ended_at repos own word bytes = option_or (by_rows (done_rows repos) bytes) (behind_mark (codes "refused ") bytes >>= refused_at repos own word)
