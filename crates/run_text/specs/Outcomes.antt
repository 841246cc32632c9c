-- How a job ended, as it is printed behind the line of the job (own).
use Rattle.std.specs.Prelude.{ℕ, Bool, true, false, List, [], ◌++◌, codes, Option, Some, None}
use Rattle.std.specs.Fmt.{decimal}
use Rattle.run_data.specs.declared.run.RepoView.{RepoView}
use Rattle.run_data.specs.declared.job.Job.{Job}
use Rattle.run_data.specs.declared.job.JobKind.{JobKind}
use Rattle.run_data.specs.declared.job.JobKind.TheVariants as kinds
use Rattle.run_data.specs.declared.job.Proof.{Proof}
use Rattle.run_data.specs.declared.job.Cause.{Cause}
use Rattle.run_data.specs.declared.job.Cause.TheVariants as causes
use Rattle.run_data.specs.declared.job.CandidateCause.{CandidateCause}
use Rattle.run_data.specs.declared.job.Denial.{Denial}
use Rattle.run_data.specs.declared.job.Denial.TheVariants as denials
use Rattle.run_data.specs.declared.job.DropRefusal.{DropRefusal}
use Rattle.run_data.specs.declared.job.DropRefusal.TheVariants as refusals
use Rattle.run_data.specs.declared.job.TransferRefusal.{TransferRefusal}
use Rattle.run_data.specs.declared.job.TransferRefusal.TheVariants as transfers
use Rattle.run_data.specs.declared.job.SourceCause.{SourceCause}
use Rattle.run_data.specs.declared.job.SourceCause.TheVariants as sources
use Rattle.run_data.specs.declared.job.SourceFailure.{SourceFailure}
use Rattle.run_data.specs.declared.job.Outcome.{Outcome}
use Rattle.run_data.specs.declared.job.Outcome.TheVariants as outcomes
use Rattle.run_text.specs.Words.{joined_text, number_or_dash}
use Rattle.run_text.specs.Names.{name_of, name_or_dash, names}

abbrev pub proof_text : List RepoView → Proof → List ℕ
proof_text repos proof = codes "need=" ++ decimal proof.need.n ++ codes "," ++ decimal proof.need.m
    ++ codes " locked=" ++ names repos proof.locked ++ codes " trusted=" ++ names repos proof.trusted ++ codes " recent=" ++ names repos proof.recent

abbrev pub cause_text : Cause → List ℕ
cause_text causes.Absent = codes "absent"
cause_text causes.Barred = codes "barred"
cause_text causes.Fault = codes "fault"
cause_text causes.Closed = codes "closed"
cause_text causes.Untrusted = codes "untrusted"
cause_text causes.Dead = codes "dead"

abbrev pub candidate_text : List RepoView → CandidateCause → List ℕ
candidate_text repos x = name_of repos x.repo ++ codes ":" ++ cause_text x.cause

abbrev pub until_text : Option ℕ → List ℕ
until_text None = codes "open"
until_text (Some end) = decimal end

abbrev pub denial_text : Denial → List ℕ
denial_text denials.Late = codes "late"
denial_text denials.Barred = codes "barred"
denial_text denials.Held = codes "held"
denial_text denials.Fault = codes "fault"

abbrev pub ordered_text : Bool → List ℕ
ordered_text true = codes "ordered"
ordered_text false = codes "unordered"

-- the number of a drop's refusal, and its reason
abbrev pub refusal_text : List RepoView → DropRefusal → List ℕ
refusal_text repos refusals.NotPresent = codes "1 notpresent"
refusal_text repos (refusals.Required expression) = codes "2 required " ++ expression
refusal_text repos (refusals.Held until) = codes "3 held until=" ++ until_text until
refusal_text repos (refusals.Barred job) = codes "4 barred " ++ decimal job
refusal_text repos (refusals.Lacking proof reasons) = codes "5 lacking " ++ proof_text repos proof ++ codes " causes=" ++ joined_text 44 (candidate_text repos) reasons
refusal_text repos (refusals.Expired end clock) = codes "6 expired " ++ decimal end ++ codes " " ++ decimal clock
refusal_text repos (refusals.Denied answer) = codes "7 denied " ++ denial_text answer
refusal_text repos (refusals.Lost ordered) = codes "8 lost " ++ ordered_text ordered
refusal_text repos (refusals.OldProtocol version) = codes "9 oldprotocol " ++ decimal version
refusal_text repos refusals.StoreFault = codes "10 storefault"
refusal_text repos refusals.Crashed = codes "11 crashed"

abbrev pub source_text : SourceCause → List ℕ
source_text sources.Absent = codes "absent"
source_text sources.Closed = codes "closed"
source_text sources.Wrong = codes "wrong"
source_text sources.Invalid = codes "invalid"

abbrev pub failure_text : List RepoView → SourceFailure → List ℕ
failure_text repos x = name_of repos x.repo ++ codes ":" ++ source_text x.cause

-- the number of a transfer's refusal, and its reason
abbrev pub transfer_text : List RepoView → TransferRefusal → List ℕ
transfer_text repos transfers.NotHere = codes "1 nothere"
transfer_text repos (transfers.NoSource reasons) = codes "2 nosource causes=" ++ joined_text 44 (failure_text repos) reasons
transfer_text repos transfers.Busy = codes "3 busy"
transfer_text repos transfers.Closed = codes "4 closed"
transfer_text repos transfers.Rejected = codes "5 rejected"
transfer_text repos transfers.StoreFault = codes "6 storefault"
transfer_text repos transfers.Crashed = codes "7 crashed"

-- for a move the transfer is named
abbrev pub transfer_word : JobKind → List ℕ
transfer_word kinds.Drop = []
transfer_word kinds.Get = []
transfer_word kinds.Copy = []
transfer_word kinds.MoveTo = codes "transfer "
transfer_word kinds.MoveFrom = codes "transfer "

abbrev pub transfer_word_of : Option Job → List ℕ
transfer_word_of None = []
transfer_word_of (Some job) = transfer_word job.kind

-- what follows the job in its line
abbrev pub outcome_text : List RepoView → Option Job → Outcome → List ℕ
outcome_text repos job (outcomes.Dropped proof) = codes " done " ++ proof_text repos proof
outcome_text repos job (outcomes.DroppedAbsent proof) = codes " done absent " ++ proof_text repos proof
outcome_text repos job (outcomes.Got source start) = codes " done source=" ++ name_or_dash repos source ++ codes " start=" ++ number_or_dash start
outcome_text repos job (outcomes.Copied start) = codes " done start=" ++ number_or_dash start
outcome_text repos job (outcomes.Refused refusal) = codes " refused " ++ refusal_text repos refusal
outcome_text repos job (outcomes.TransferRefused refusal) = codes " refused " ++ transfer_word_of job ++ transfer_text repos refusal
