-- When two effects are the same.
use Rattle.std.specs.Prelude.{ℕ, Bool, true, false, ◌&&◌, ◌==◌, List, Option, bytes_eq}
use Rattle.std.specs.Option.{option_eq}
use Rattle.std.specs.Cmp.Lexicographic.{pointwise}
use Rattle.annex_base.specs.Bools.{same_bool}
use Rattle.annex_base.specs.Calls.{same_call}
use Rattle.annex_base.specs.declared.kinds.Found.{Found}
use Rattle.annex_base.specs.declared.kinds.Found.TheVariants as founds
use Rattle.drop_proof.specs.declared.rule.Need.{Need}
use Rattle.log_lines.specs.declared.entry.LogKind.{LogKind}
use Rattle.log_lines.specs.declared.entry.LogKind.TheVariants as logs
use Rattle.run_data.specs.declared.entry.EntryKind.{EntryKind}
use Rattle.run_data.specs.declared.entry.EntryKind.TheVariants as kinds
use Rattle.run_data.specs.declared.entry.FrameText.{FrameText}
use Rattle.run_data.specs.declared.entry.FrameText.TheVariants.{Opening, Closing, Bytes, Line}
use Rattle.run_data.specs.declared.entry.FrameView.{FrameView}
use Rattle.run_data.specs.declared.entry.LogFile.{LogFile}
use Rattle.run_data.specs.declared.entry.LogFile.TheVariants as files
use Rattle.run_data.specs.declared.job.CandidateCause.{CandidateCause}
use Rattle.run_data.specs.declared.job.Cause.{Cause}
use Rattle.run_data.specs.declared.job.Cause.TheVariants as causes
use Rattle.run_data.specs.declared.job.Denial.{Denial}
use Rattle.run_data.specs.declared.job.Denial.TheVariants as denials
use Rattle.run_data.specs.declared.job.DropRefusal.{DropRefusal}
use Rattle.run_data.specs.declared.job.DropRefusal.TheVariants as refusals
use Rattle.run_data.specs.declared.job.Job.{Job}
use Rattle.run_data.specs.declared.job.JobKind.{JobKind}
use Rattle.run_data.specs.declared.job.JobKind.TheVariants as jobs
use Rattle.run_data.specs.declared.job.Outcome.{Outcome}
use Rattle.run_data.specs.declared.job.Outcome.TheVariants as outcomes
use Rattle.run_data.specs.declared.job.Proof.{Proof}
use Rattle.run_data.specs.declared.job.SourceCause.{SourceCause}
use Rattle.run_data.specs.declared.job.SourceCause.TheVariants as sources
use Rattle.run_data.specs.declared.job.SourceFailure.{SourceFailure}
use Rattle.run_data.specs.declared.job.TransferRefusal.{TransferRefusal}
use Rattle.run_data.specs.declared.job.TransferRefusal.TheVariants as transfers
use Rattle.node_model.specs.Look.{Effect}
use Rattle.node_model.specs.Rows.{same_owner}

abbrev pub same_numbers : List ℕ → List ℕ → Bool
same_numbers xs ys = pointwise (λ a b. a == b) xs ys

abbrev pub same_number : Option ℕ → Option ℕ → Bool
same_number a b = option_eq (λ x y. x == y) a b

abbrev pub same_text : Option (List ℕ) → Option (List ℕ) → Bool
same_text a b = option_eq (λ x y. bytes_eq x y) a b

abbrev pub same_found : Found → Found → Bool
same_found founds.Present founds.Present = true
same_found founds.Absent founds.Absent = true
same_found founds.Barred founds.Barred = true
same_found founds.Held founds.Held = true
same_found founds.Late founds.Late = true
same_found founds.Nolock founds.Nolock = true
same_found _ _ = false

abbrev pub same_log : LogKind → LogKind → Bool
same_log logs.Location logs.Location = true
same_log logs.Trust logs.Trust = true
same_log logs.Uuid logs.Uuid = true
same_log logs.Group logs.Group = true
same_log logs.Preferred logs.Preferred = true
same_log logs.Required logs.Required = true
same_log logs.GroupPreferred logs.GroupPreferred = true
same_log logs.Numcopies logs.Numcopies = true
same_log logs.Mincopies logs.Mincopies = true
same_log logs.NumcopiesPath logs.NumcopiesPath = true
same_log logs.MincopiesPath logs.MincopiesPath = true
same_log _ _ = false

abbrev pub same_file : LogFile → LogFile → Bool
same_file (files.Location k) (files.Location l) = bytes_eq k l
same_file (files.Of k) (files.Of l) = same_log k l
same_file (files.Other k) (files.Other l) = bytes_eq k l
same_file _ _ = false

abbrev pub same_job_kind : JobKind → JobKind → Bool
same_job_kind jobs.Drop jobs.Drop = true
same_job_kind jobs.Get jobs.Get = true
same_job_kind jobs.Copy jobs.Copy = true
same_job_kind jobs.MoveTo jobs.MoveTo = true
same_job_kind jobs.MoveFrom jobs.MoveFrom = true
same_job_kind _ _ = false

abbrev pub same_job : Job → Job → Bool
same_job a b = same_job_kind a.kind b.kind && bytes_eq a.key b.key && same_text a.path b.path && same_number a.peer b.peer

abbrev pub same_need : Need → Need → Bool
same_need a b = (a.n == b.n) && (a.m == b.m)

abbrev pub same_proof : Proof → Proof → Bool
same_proof a b = same_need a.need b.need && same_numbers a.locked b.locked && same_numbers a.trusted b.trusted && same_numbers a.recent b.recent

abbrev pub same_cause : Cause → Cause → Bool
same_cause causes.Absent causes.Absent = true
same_cause causes.Barred causes.Barred = true
same_cause causes.Fault causes.Fault = true
same_cause causes.Closed causes.Closed = true
same_cause causes.Untrusted causes.Untrusted = true
same_cause causes.Dead causes.Dead = true
same_cause _ _ = false

abbrev pub same_candidate : CandidateCause → CandidateCause → Bool
same_candidate a b = (a.repo == b.repo) && same_cause a.cause b.cause

abbrev pub same_denial : Denial → Denial → Bool
same_denial denials.Late denials.Late = true
same_denial denials.Barred denials.Barred = true
same_denial denials.Held denials.Held = true
same_denial denials.Fault denials.Fault = true
same_denial _ _ = false

abbrev pub same_refusal : DropRefusal → DropRefusal → Bool
same_refusal refusals.NotPresent refusals.NotPresent = true
same_refusal (refusals.Required a) (refusals.Required b) = bytes_eq a b
same_refusal (refusals.Held a) (refusals.Held b) = same_number a b
same_refusal (refusals.Barred a) (refusals.Barred b) = a == b
same_refusal (refusals.Lacking p xs) (refusals.Lacking q ys) = same_proof p q && pointwise same_candidate xs ys
same_refusal (refusals.Expired a c) (refusals.Expired b d) = (a == b) && (c == d)
same_refusal (refusals.Denied a) (refusals.Denied b) = same_denial a b
same_refusal (refusals.Lost a) (refusals.Lost b) = same_bool a b
same_refusal (refusals.OldProtocol a) (refusals.OldProtocol b) = a == b
same_refusal refusals.StoreFault refusals.StoreFault = true
same_refusal refusals.Crashed refusals.Crashed = true
same_refusal _ _ = false

abbrev pub same_source : SourceCause → SourceCause → Bool
same_source sources.Absent sources.Absent = true
same_source sources.Closed sources.Closed = true
same_source sources.Wrong sources.Wrong = true
same_source sources.Invalid sources.Invalid = true
same_source _ _ = false

abbrev pub same_failure : SourceFailure → SourceFailure → Bool
same_failure a b = (a.repo == b.repo) && same_source a.cause b.cause

abbrev pub same_transfer : TransferRefusal → TransferRefusal → Bool
same_transfer transfers.NotHere transfers.NotHere = true
same_transfer (transfers.NoSource xs) (transfers.NoSource ys) = pointwise same_failure xs ys
same_transfer transfers.Busy transfers.Busy = true
same_transfer transfers.Closed transfers.Closed = true
same_transfer transfers.Rejected transfers.Rejected = true
same_transfer transfers.StoreFault transfers.StoreFault = true
same_transfer transfers.Crashed transfers.Crashed = true
same_transfer _ _ = false

abbrev pub same_outcome : Outcome → Outcome → Bool
same_outcome (outcomes.Dropped p) (outcomes.Dropped q) = same_proof p q
same_outcome (outcomes.DroppedAbsent p) (outcomes.DroppedAbsent q) = same_proof p q
same_outcome (outcomes.Got a c) (outcomes.Got b d) = same_number a b && same_number c d
same_outcome (outcomes.Copied a) (outcomes.Copied b) = same_number a b
same_outcome (outcomes.Refused a) (outcomes.Refused b) = same_refusal a b
same_outcome (outcomes.TransferRefused a) (outcomes.TransferRefused b) = same_transfer a b
same_outcome _ _ = false

abbrev pub same_kind : EntryKind → EntryKind → Bool
same_kind (kinds.Begin j a) (kinds.Begin i b) = (j == i) && same_job a b
same_kind (kinds.Gain a n k) (kinds.Gain b m l) = same_owner a b && (n == m) && bytes_eq k l
same_kind (kinds.Share h x a k) (kinds.Share i y b l) = (h == i) && (x == y) && same_owner a b && bytes_eq k l
same_kind (kinds.Release h k) (kinds.Release i l) = (h == i) && bytes_eq k l
same_kind (kinds.Check a k) (kinds.Check b l) = same_found a b && bytes_eq k l
same_kind (kinds.Bar j a k) (kinds.Bar i b l) = (j == i) && same_need a b && bytes_eq k l
same_kind (kinds.Order j p d a k) (kinds.Order i q f b l) = (j == i) && (p == q) && same_number d f && same_need a b && bytes_eq k l
same_kind (kinds.Gone a k) (kinds.Gone b l) = same_owner a b && bytes_eq k l
same_kind (kinds.Log a) (kinds.Log b) = same_file a b
same_kind (kinds.Compact a) (kinds.Compact b) = same_file a b
same_kind (kinds.Talk a) (kinds.Talk b) = same_number a b
same_kind (kinds.Close p s a) (kinds.Close q t b) = (p == q) && (s == t) && same_bool a b
same_kind (kinds.Crash a) (kinds.Crash b) = a == b
same_kind (kinds.Wait a) (kinds.Wait b) = a == b
same_kind (kinds.Fault c a) (kinds.Fault d b) = same_call c d && same_owner a b
same_kind (kinds.End j a) (kinds.End i b) = (j == i) && same_outcome a b
same_kind _ _ = false

abbrev pub same_body : FrameText → FrameText → Bool
same_body Opening Opening = true
same_body Closing Closing = true
same_body (Bytes a) (Bytes b) = a == b
same_body (Line a) (Line b) = bytes_eq a b
same_body _ _ = false

abbrev pub same_frame : FrameView → FrameView → Bool
same_frame a b = (a.peer == b.peer) && (a.slot == b.slot) && same_bool a.up b.up && (a.epoch == b.epoch) && (a.seq == b.seq) && same_body a.body b.body

abbrev pub same_frames : List FrameView → List FrameView → Bool
same_frames xs ys = pointwise same_frame xs ys

abbrev pub same_lines : List (List ℕ) → List (List ℕ) → Bool
same_lines xs ys = pointwise (λ a b. bytes_eq a b) xs ys

-- by what an entry tells of them
abbrev pub same_effect : Effect → Effect → Bool
same_effect a b = same_kind a.kind b.kind && option_eq same_frame a.taken b.taken && same_frames a.sent b.sent && same_lines a.lines b.lines
