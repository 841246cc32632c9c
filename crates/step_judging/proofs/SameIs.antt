-- The tests of sameness decide it.
use Rattle.std.proofs.Common.{◌≡◌, ℕ, Bool, true, List, Option, Some, None, refl, ap, subst, ◌∙◌}
use Rattle.std.specs.Prelude.{[], ◌&&◌, ◌==◌, bytes_eq}
use Rattle.std.specs.Bool.{Decides}
use Rattle.std.specs.Option.{option_eq}
use Rattle.std.specs.Cmp.Lexicographic.{pointwise}
use Rattle.std.proofs.lemmas.Bool.{and_from, and_parts, eqb-true}
use Rattle.std.proofs.lemmas.Slice.Eq.{slice_eq-Decides}
use Rattle.annex_base.specs.Bools.{same_bool}
use Rattle.annex_base.specs.Calls.{call_number, same_call}
use Rattle.annex_base.proofs.Calls.{same_call-is}
use Rattle.annex_base.proofs.Conditions.{bytes_eq-refl, bytes_eq-true, eqb_refl, same_bool_is, same_bool_refl}
use Rattle.annex_base.specs.declared.kinds.Found.{Found}
use Rattle.annex_base.specs.declared.kinds.Found.TheVariants as founds
use Rattle.drop_proof.specs.declared.rule.Need.{Need}
use Rattle.log_lines.specs.declared.entry.LogKind.{LogKind}
use Rattle.log_lines.specs.declared.entry.LogKind.TheVariants as logs
use Rattle.run_data.specs.declared.entry.By.{By}
use Rattle.run_data.specs.declared.entry.By.TheVariants.{Script, Job as by_job, Peer}
use Rattle.run_data.specs.declared.entry.EntryKind.{EntryKind}
use Rattle.run_data.specs.declared.entry.EntryKind.TheVariants as kinds
use Rattle.run_data.specs.declared.entry.FrameText.{FrameText}
use Rattle.run_data.specs.declared.entry.FrameText.TheVariants.{Opening, Closing, Bytes, Line}
use Rattle.run_data.specs.declared.entry.FrameView.{FrameView}
use Rattle.run_data.specs.declared.entry.LogFile.{LogFile}
use Rattle.run_data.specs.declared.entry.LogFile.TheVariants as files
use Rattle.run_data.specs.declared.job.CandidateCause.{CandidateCause}
use Rattle.run_data.specs.declared.job.Cause.{Cause}
use Rattle.run_data.specs.declared.job.Cause.TheVariants as causes
use Rattle.run_data.specs.declared.job.Denial.{Denial}
use Rattle.run_data.specs.declared.job.Denial.TheVariants as denials
use Rattle.run_data.specs.declared.job.DropRefusal.{DropRefusal}
use Rattle.run_data.specs.declared.job.DropRefusal.TheVariants as refusals
use Rattle.run_data.specs.declared.job.Job.{Job}
use Rattle.run_data.specs.declared.job.JobKind.{JobKind}
use Rattle.run_data.specs.declared.job.JobKind.TheVariants as jobs
use Rattle.run_data.specs.declared.job.Outcome.{Outcome}
use Rattle.run_data.specs.declared.job.Outcome.TheVariants as outcomes
use Rattle.run_data.specs.declared.job.Proof.{Proof}
use Rattle.run_data.specs.declared.job.SourceCause.{SourceCause}
use Rattle.run_data.specs.declared.job.SourceCause.TheVariants as sources
use Rattle.run_data.specs.declared.job.SourceFailure.{SourceFailure}
use Rattle.run_data.specs.declared.job.TransferRefusal.{TransferRefusal}
use Rattle.run_data.specs.declared.job.TransferRefusal.TheVariants as transfers
use Rattle.node_model.specs.Look.{Effect, as_told}
use Rattle.node_model.specs.Rows.{same_owner}
use Rattle.step_judging.specs.Same.{same_body, same_candidate, same_cause, same_denial, same_effect, same_failure, same_file, same_found, same_frame, same_frames, same_job, same_job_kind, same_kind, same_lines, same_log, same_need, same_number, same_numbers, same_outcome, same_proof, same_refusal, same_source, same_text, same_transfer}

-- ---- a test that tells sameness: true of each with itself, and of nothing else

pub record Tells {X : Type 0} (same : X → X → Bool) : Type 0 where
  pub is : (x y : X) → same x y ≡ true → x ≡ y
  pub itself : (x : X) → same x x ≡ true

decides : {X : Type 0} (same : X → X → Bool) → Tells same → (x y : X) → Decides (same x y) (x ≡ y)
decides same t x y = (t.is x y, λ e. subst (λ z. same x z ≡ true) e (t.itself x))

both : (b c : Bool) → b ≡ true → c ≡ true → (b && c) ≡ true
both b c e f = and_from b c e f

numbers_tell : Tells (λ (a b : ℕ). a == b)
numbers_tell = record { is = λ x y e. eqb-true x y e; itself = λ x. eqb_refl x }

bytes_tell : Tells (λ (a b : List ℕ). bytes_eq a b)
bytes_tell = record { is = λ x y e. bytes_eq-true x y e; itself = λ x. bytes_eq-refl x }

bools_tell : Tells same_bool
bools_tell = record { is = same_bool_is; itself = same_bool_refl }

calls_tell : Tells same_call
calls_tell = record { is = same_call-is; itself = λ c. eqb_refl (call_number c) }

list_tells : {X : Type 0} (same : X → X → Bool) → Tells same → Tells (λ xs ys. pointwise same xs ys)
list_tells same t = record {
  is = λ xs ys e. (slice_eq-Decides (decides same t) xs ys (pointwise same xs ys) refl).0 e;
  itself = λ xs. (slice_eq-Decides (decides same t) xs xs (pointwise same xs xs) refl).1 refl;
}

option_tells : {X : Type 0} (same : X → X → Bool) → Tells same → Tells (λ a b. option_eq same a b)
option_tells {X = X} same t = record { is = is; itself = itself }
  where
    is : (a b : Option X) → option_eq same a b ≡ true → a ≡ b
    is None None e = refl
    is (Some x) (Some y) e = ap (λ z. Some z) (t.is x y e)
    is None (Some y) e = absurd (cc)
    is (Some x) None e = absurd (cc)

    itself : (a : Option X) → option_eq same a a ≡ true
    itself None = refl
    itself (Some x) = t.itself x

same_number_tells : Tells same_number
same_number_tells = option_tells (λ (a b : ℕ). a == b) numbers_tell

same_text_tells : Tells same_text
same_text_tells = option_tells (λ (a b : List ℕ). bytes_eq a b) bytes_tell

same_numbers_tells : Tells same_numbers
same_numbers_tells = list_tells (λ (a b : ℕ). a == b) numbers_tell

pub same_lines_tells : Tells same_lines
same_lines_tells = list_tells (λ (a b : List ℕ). bytes_eq a b) bytes_tell

-- ---- names

owner_tells : Tells same_owner
owner_tells = record { is = is; itself = itself }
  where
    is : (a b : By) → same_owner a b ≡ true → a ≡ b
    is Script Script e = refl
    is (by_job i) (by_job j) e = ap (λ n. by_job n) (eqb-true i j e)
    is (Peer p s) (Peer q t) e =
        let h = and_parts (p == q) (s == t) e in let one : p ≡ q = eqb-true p q h.0 in let two : s ≡ t = eqb-true s t h.1 in cc
    is _ _ e = absurd (cc)

    itself : (a : By) → same_owner a a ≡ true
    itself Script = refl
    itself (by_job i) = eqb_refl i
    itself (Peer p s) = both (p == p) (s == s) (eqb_refl p) (eqb_refl s)

found_tells : Tells same_found
found_tells = record { is = is; itself = itself }
  where
    is : (a b : Found) → same_found a b ≡ true → a ≡ b
    is founds.Present founds.Present e = refl
    is founds.Absent founds.Absent e = refl
    is founds.Barred founds.Barred e = refl
    is founds.Held founds.Held e = refl
    is founds.Late founds.Late e = refl
    is founds.Nolock founds.Nolock e = refl
    is _ _ e = absurd (cc)

    itself : (a : Found) → same_found a a ≡ true
    itself founds.Present = refl
    itself founds.Absent = refl
    itself founds.Barred = refl
    itself founds.Held = refl
    itself founds.Late = refl
    itself founds.Nolock = refl

log_tells : Tells same_log
log_tells = record { is = is; itself = itself }
  where
    is : (a b : LogKind) → same_log a b ≡ true → a ≡ b
    is logs.Location logs.Location e = refl
    is logs.Trust logs.Trust e = refl
    is logs.Uuid logs.Uuid e = refl
    is logs.Group logs.Group e = refl
    is logs.Preferred logs.Preferred e = refl
    is logs.Required logs.Required e = refl
    is logs.GroupPreferred logs.GroupPreferred e = refl
    is logs.Numcopies logs.Numcopies e = refl
    is logs.Mincopies logs.Mincopies e = refl
    is logs.NumcopiesPath logs.NumcopiesPath e = refl
    is logs.MincopiesPath logs.MincopiesPath e = refl
    is _ _ e = absurd (cc)

    itself : (a : LogKind) → same_log a a ≡ true
    itself logs.Location = refl
    itself logs.Trust = refl
    itself logs.Uuid = refl
    itself logs.Group = refl
    itself logs.Preferred = refl
    itself logs.Required = refl
    itself logs.GroupPreferred = refl
    itself logs.Numcopies = refl
    itself logs.Mincopies = refl
    itself logs.NumcopiesPath = refl
    itself logs.MincopiesPath = refl

file_tells : Tells same_file
file_tells = record { is = is; itself = itself }
  where
    is : (a b : LogFile) → same_file a b ≡ true → a ≡ b
    is (files.Location k) (files.Location l) e = ap (λ x. files.Location x) (bytes_eq-true k l e)
    is (files.Of k) (files.Of l) e = ap (λ x. files.Of x) (log_tells.is k l e)
    is (files.Other k) (files.Other l) e = ap (λ x. files.Other x) (bytes_eq-true k l e)
    is _ _ e = absurd (cc)

    itself : (a : LogFile) → same_file a a ≡ true
    itself (files.Location k) = bytes_eq-refl k
    itself (files.Of k) = log_tells.itself k
    itself (files.Other k) = bytes_eq-refl k

-- ---- jobs and outcomes

job_kind_tells : Tells same_job_kind
job_kind_tells = record { is = is; itself = itself }
  where
    is : (a b : JobKind) → same_job_kind a b ≡ true → a ≡ b
    is jobs.Drop jobs.Drop e = refl
    is jobs.Get jobs.Get e = refl
    is jobs.Copy jobs.Copy e = refl
    is jobs.MoveTo jobs.MoveTo e = refl
    is jobs.MoveFrom jobs.MoveFrom e = refl
    is _ _ e = absurd (cc)

    itself : (a : JobKind) → same_job_kind a a ≡ true
    itself jobs.Drop = refl
    itself jobs.Get = refl
    itself jobs.Copy = refl
    itself jobs.MoveTo = refl
    itself jobs.MoveFrom = refl

abbrev job_of : JobKind → List ℕ → Option (List ℕ) → Option ℕ → Job
job_of kind key path peer = record { kind = kind; key = key; path = path; peer = peer }

job_tells : Tells same_job
job_tells = record {
  is = λ a b e.
      let h = and_parts (same_job_kind a.kind b.kind && bytes_eq a.key b.key && same_text a.path b.path) (same_number a.peer b.peer) e in
      let i = and_parts (same_job_kind a.kind b.kind && bytes_eq a.key b.key) (same_text a.path b.path) h.0 in
      let j = and_parts (same_job_kind a.kind b.kind) (bytes_eq a.key b.key) i.0 in
      ap (λ x. job_of x a.key a.path a.peer) (job_kind_tells.is a.kind b.kind j.0) ∙ ap (λ x. job_of b.kind x a.path a.peer) (bytes_eq-true a.key b.key j.1)
      ∙ ap (λ x. job_of b.kind b.key x a.peer) (same_text_tells.is a.path b.path i.1) ∙ ap (λ x. job_of b.kind b.key b.path x) (same_number_tells.is a.peer b.peer h.1);
  itself = λ a.
      both (same_job_kind a.kind a.kind && bytes_eq a.key a.key && same_text a.path a.path) (same_number a.peer a.peer)
      (both (same_job_kind a.kind a.kind && bytes_eq a.key a.key) (same_text a.path a.path)
      (both (same_job_kind a.kind a.kind) (bytes_eq a.key a.key) (job_kind_tells.itself a.kind) (bytes_eq-refl a.key)) (same_text_tells.itself a.path))
      (same_number_tells.itself a.peer);
}

abbrev need_of : ℕ → ℕ → Need
need_of n m = record { n = n; m = m }

need_tells : Tells same_need
need_tells = record {
  is = λ a b e.
      let h = and_parts (a.n == b.n) (a.m == b.m) e in
      ap (λ x. need_of x a.m) (eqb-true a.n b.n h.0) ∙ ap (λ x. need_of b.n x) (eqb-true a.m b.m h.1);
  itself = λ a. both (a.n == a.n) (a.m == a.m) (eqb_refl a.n) (eqb_refl a.m);
}

abbrev proof_of : Need → List ℕ → List ℕ → List ℕ → Proof
proof_of need locked trusted recent = record { need = need; locked = locked; trusted = trusted; recent = recent }

proof_tells : Tells same_proof
proof_tells = record {
  is = λ a b e.
      let h = and_parts (same_need a.need b.need && same_numbers a.locked b.locked && same_numbers a.trusted b.trusted) (same_numbers a.recent b.recent) e in
      let i = and_parts (same_need a.need b.need && same_numbers a.locked b.locked) (same_numbers a.trusted b.trusted) h.0 in
      let j = and_parts (same_need a.need b.need) (same_numbers a.locked b.locked) i.0 in
      ap (λ x. proof_of x a.locked a.trusted a.recent) (need_tells.is a.need b.need j.0) ∙ ap (λ x. proof_of b.need x a.trusted a.recent) (same_numbers_tells.is a.locked b.locked j.1)
      ∙ ap (λ x. proof_of b.need b.locked x a.recent) (same_numbers_tells.is a.trusted b.trusted i.1)
      ∙ ap (λ x. proof_of b.need b.locked b.trusted x) (same_numbers_tells.is a.recent b.recent h.1);
  itself = λ a.
      both (same_need a.need a.need && same_numbers a.locked a.locked && same_numbers a.trusted a.trusted) (same_numbers a.recent a.recent)
      (both (same_need a.need a.need && same_numbers a.locked a.locked) (same_numbers a.trusted a.trusted)
      (both (same_need a.need a.need) (same_numbers a.locked a.locked) (need_tells.itself a.need) (same_numbers_tells.itself a.locked)) (same_numbers_tells.itself a.trusted))
      (same_numbers_tells.itself a.recent);
}

cause_tells : Tells same_cause
cause_tells = record { is = is; itself = itself }
  where
    is : (a b : Cause) → same_cause a b ≡ true → a ≡ b
    is causes.Absent causes.Absent e = refl
    is causes.Barred causes.Barred e = refl
    is causes.Fault causes.Fault e = refl
    is causes.Closed causes.Closed e = refl
    is causes.Untrusted causes.Untrusted e = refl
    is causes.Dead causes.Dead e = refl
    is _ _ e = absurd (cc)

    itself : (a : Cause) → same_cause a a ≡ true
    itself causes.Absent = refl
    itself causes.Barred = refl
    itself causes.Fault = refl
    itself causes.Closed = refl
    itself causes.Untrusted = refl
    itself causes.Dead = refl

abbrev candidate_of : ℕ → Cause → CandidateCause
candidate_of repo cause = record { repo = repo; cause = cause }

candidate_tells : Tells same_candidate
candidate_tells = record {
  is = λ a b e.
      let h = and_parts (a.repo == b.repo) (same_cause a.cause b.cause) e in
      ap (λ x. candidate_of x a.cause) (eqb-true a.repo b.repo h.0) ∙ ap (λ x. candidate_of b.repo x) (cause_tells.is a.cause b.cause h.1);
  itself = λ a. both (a.repo == a.repo) (same_cause a.cause a.cause) (eqb_refl a.repo) (cause_tells.itself a.cause);
}

candidates_tell : Tells (λ xs ys. pointwise same_candidate xs ys)
candidates_tell = list_tells same_candidate candidate_tells

denial_tells : Tells same_denial
denial_tells = record { is = is; itself = itself }
  where
    is : (a b : Denial) → same_denial a b ≡ true → a ≡ b
    is denials.Late denials.Late e = refl
    is denials.Barred denials.Barred e = refl
    is denials.Held denials.Held e = refl
    is denials.Fault denials.Fault e = refl
    is _ _ e = absurd (cc)

    itself : (a : Denial) → same_denial a a ≡ true
    itself denials.Late = refl
    itself denials.Barred = refl
    itself denials.Held = refl
    itself denials.Fault = refl

refusal_tells : Tells same_refusal
refusal_tells = record { is = is; itself = itself }
  where
    is : (a b : DropRefusal) → same_refusal a b ≡ true → a ≡ b
    is refusals.NotPresent refusals.NotPresent e = refl
    is (refusals.Required a) (refusals.Required b) e = ap (λ x. refusals.Required x) (bytes_eq-true a b e)
    is (refusals.Held a) (refusals.Held b) e = ap (λ x. refusals.Held x) (same_number_tells.is a b e)
    is (refusals.Barred a) (refusals.Barred b) e = ap (λ x. refusals.Barred x) (eqb-true a b e)
    is (refusals.Lacking p xs) (refusals.Lacking q ys) e =
        let h = and_parts (same_proof p q) (pointwise same_candidate xs ys) e in
        let one : p ≡ q = proof_tells.is p q h.0 in let two : xs ≡ ys = candidates_tell.is xs ys h.1 in cc
    is (refusals.Expired a c) (refusals.Expired b d) e =
        let h = and_parts (a == b) (c == d) e in let one : a ≡ b = eqb-true a b h.0 in let two : c ≡ d = eqb-true c d h.1 in cc
    is (refusals.Denied a) (refusals.Denied b) e = ap (λ x. refusals.Denied x) (denial_tells.is a b e)
    is (refusals.Lost a) (refusals.Lost b) e = ap (λ x. refusals.Lost x) (same_bool_is a b e)
    is (refusals.OldProtocol a) (refusals.OldProtocol b) e = ap (λ x. refusals.OldProtocol x) (eqb-true a b e)
    is refusals.StoreFault refusals.StoreFault e = refl
    is refusals.Crashed refusals.Crashed e = refl
    is _ _ e = absurd (cc)

    itself : (a : DropRefusal) → same_refusal a a ≡ true
    itself refusals.NotPresent = refl
    itself (refusals.Required a) = bytes_eq-refl a
    itself (refusals.Held a) = same_number_tells.itself a
    itself (refusals.Barred a) = eqb_refl a
    itself (refusals.Lacking p xs) = both (same_proof p p) (pointwise same_candidate xs xs) (proof_tells.itself p) (candidates_tell.itself xs)
    itself (refusals.Expired a c) = both (a == a) (c == c) (eqb_refl a) (eqb_refl c)
    itself (refusals.Denied a) = denial_tells.itself a
    itself (refusals.Lost a) = same_bool_refl a
    itself (refusals.OldProtocol a) = eqb_refl a
    itself refusals.StoreFault = refl
    itself refusals.Crashed = refl

source_tells : Tells same_source
source_tells = record { is = is; itself = itself }
  where
    is : (a b : SourceCause) → same_source a b ≡ true → a ≡ b
    is sources.Absent sources.Absent e = refl
    is sources.Closed sources.Closed e = refl
    is sources.Wrong sources.Wrong e = refl
    is sources.Invalid sources.Invalid e = refl
    is _ _ e = absurd (cc)

    itself : (a : SourceCause) → same_source a a ≡ true
    itself sources.Absent = refl
    itself sources.Closed = refl
    itself sources.Wrong = refl
    itself sources.Invalid = refl

abbrev failure_of : ℕ → SourceCause → SourceFailure
failure_of repo cause = record { repo = repo; cause = cause }

failure_tells : Tells same_failure
failure_tells = record {
  is = λ a b e.
      let h = and_parts (a.repo == b.repo) (same_source a.cause b.cause) e in
      ap (λ x. failure_of x a.cause) (eqb-true a.repo b.repo h.0) ∙ ap (λ x. failure_of b.repo x) (source_tells.is a.cause b.cause h.1);
  itself = λ a. both (a.repo == a.repo) (same_source a.cause a.cause) (eqb_refl a.repo) (source_tells.itself a.cause);
}

failures_tell : Tells (λ xs ys. pointwise same_failure xs ys)
failures_tell = list_tells same_failure failure_tells

transfer_tells : Tells same_transfer
transfer_tells = record { is = is; itself = itself }
  where
    is : (a b : TransferRefusal) → same_transfer a b ≡ true → a ≡ b
    is transfers.NotHere transfers.NotHere e = refl
    is (transfers.NoSource xs) (transfers.NoSource ys) e = ap (λ x. transfers.NoSource x) (failures_tell.is xs ys e)
    is transfers.Busy transfers.Busy e = refl
    is transfers.Closed transfers.Closed e = refl
    is transfers.Rejected transfers.Rejected e = refl
    is transfers.StoreFault transfers.StoreFault e = refl
    is transfers.Crashed transfers.Crashed e = refl
    is _ _ e = absurd (cc)

    itself : (a : TransferRefusal) → same_transfer a a ≡ true
    itself transfers.NotHere = refl
    itself (transfers.NoSource xs) = failures_tell.itself xs
    itself transfers.Busy = refl
    itself transfers.Closed = refl
    itself transfers.Rejected = refl
    itself transfers.StoreFault = refl
    itself transfers.Crashed = refl

outcome_tells : Tells same_outcome
outcome_tells = record { is = is; itself = itself }
  where
    is : (a b : Outcome) → same_outcome a b ≡ true → a ≡ b
    is (outcomes.Dropped p) (outcomes.Dropped q) e = ap (λ x. outcomes.Dropped x) (proof_tells.is p q e)
    is (outcomes.DroppedAbsent p) (outcomes.DroppedAbsent q) e = ap (λ x. outcomes.DroppedAbsent x) (proof_tells.is p q e)
    is (outcomes.Got a c) (outcomes.Got b d) e =
        let h = and_parts (same_number a b) (same_number c d) e in
        let one : a ≡ b = same_number_tells.is a b h.0 in let two : c ≡ d = same_number_tells.is c d h.1 in cc
    is (outcomes.Copied a) (outcomes.Copied b) e = ap (λ x. outcomes.Copied x) (same_number_tells.is a b e)
    is (outcomes.Refused a) (outcomes.Refused b) e = ap (λ x. outcomes.Refused x) (refusal_tells.is a b e)
    is (outcomes.TransferRefused a) (outcomes.TransferRefused b) e = ap (λ x. outcomes.TransferRefused x) (transfer_tells.is a b e)
    is _ _ e = absurd (cc)

    itself : (a : Outcome) → same_outcome a a ≡ true
    itself (outcomes.Dropped p) = proof_tells.itself p
    itself (outcomes.DroppedAbsent p) = proof_tells.itself p
    itself (outcomes.Got a c) = both (same_number a a) (same_number c c) (same_number_tells.itself a) (same_number_tells.itself c)
    itself (outcomes.Copied a) = same_number_tells.itself a
    itself (outcomes.Refused a) = refusal_tells.itself a
    itself (outcomes.TransferRefused a) = transfer_tells.itself a

-- ---- entries

kind_tells : Tells same_kind
kind_tells = record { is = is; itself = itself }
  where
    is : (a b : EntryKind) → same_kind a b ≡ true → a ≡ b
    is (kinds.Begin j a) (kinds.Begin i b) e =
        let h = and_parts (j == i) (same_job a b) e in let one : j ≡ i = eqb-true j i h.0 in let two : a ≡ b = job_tells.is a b h.1 in cc
    is (kinds.Gain a n k) (kinds.Gain b m l) e =
        let h = and_parts (same_owner a b && (n == m)) (bytes_eq k l) e in
        let i = and_parts (same_owner a b) (n == m) h.0 in
        let one : a ≡ b = owner_tells.is a b i.0 in let two : n ≡ m = eqb-true n m i.1 in let three : k ≡ l = bytes_eq-true k l h.1 in cc
    is (kinds.Share h x a k) (kinds.Share i y b l) e =
        let p = and_parts ((h == i) && (x == y) && same_owner a b) (bytes_eq k l) e in
        let q = and_parts ((h == i) && (x == y)) (same_owner a b) p.0 in
        let r = and_parts (h == i) (x == y) q.0 in
        let one : h ≡ i = eqb-true h i r.0 in let two : x ≡ y = eqb-true x y r.1 in
        let three : a ≡ b = owner_tells.is a b q.1 in let four : k ≡ l = bytes_eq-true k l p.1 in cc
    is (kinds.Release h k) (kinds.Release i l) e =
        let p = and_parts (h == i) (bytes_eq k l) e in let one : h ≡ i = eqb-true h i p.0 in let two : k ≡ l = bytes_eq-true k l p.1 in cc
    is (kinds.Check a k) (kinds.Check b l) e =
        let p = and_parts (same_found a b) (bytes_eq k l) e in let one : a ≡ b = found_tells.is a b p.0 in let two : k ≡ l = bytes_eq-true k l p.1 in cc
    is (kinds.Bar j a k) (kinds.Bar i b l) e =
        let p = and_parts ((j == i) && same_need a b) (bytes_eq k l) e in
        let q = and_parts (j == i) (same_need a b) p.0 in
        let one : j ≡ i = eqb-true j i q.0 in let two : a ≡ b = need_tells.is a b q.1 in let three : k ≡ l = bytes_eq-true k l p.1 in cc
    is (kinds.Order j p d a k) (kinds.Order i q f b l) e =
        let t = and_parts ((j == i) && (p == q) && same_number d f && same_need a b) (bytes_eq k l) e in
        let u = and_parts ((j == i) && (p == q) && same_number d f) (same_need a b) t.0 in
        let v = and_parts ((j == i) && (p == q)) (same_number d f) u.0 in
        let w = and_parts (j == i) (p == q) v.0 in
        let one : j ≡ i = eqb-true j i w.0 in let two : p ≡ q = eqb-true p q w.1 in let three : d ≡ f = same_number_tells.is d f v.1 in
        let four : a ≡ b = need_tells.is a b u.1 in let five : k ≡ l = bytes_eq-true k l t.1 in cc
    is (kinds.Gone a k) (kinds.Gone b l) e =
        let p = and_parts (same_owner a b) (bytes_eq k l) e in let one : a ≡ b = owner_tells.is a b p.0 in let two : k ≡ l = bytes_eq-true k l p.1 in cc
    is (kinds.Log a) (kinds.Log b) e = ap (λ x. kinds.Log x) (file_tells.is a b e)
    is (kinds.Compact a) (kinds.Compact b) e = ap (λ x. kinds.Compact x) (file_tells.is a b e)
    is (kinds.Talk a) (kinds.Talk b) e = ap (λ x. kinds.Talk x) (same_number_tells.is a b e)
    is (kinds.Close p s a) (kinds.Close q t b) e =
        let h = and_parts ((p == q) && (s == t)) (same_bool a b) e in
        let i = and_parts (p == q) (s == t) h.0 in
        let one : p ≡ q = eqb-true p q i.0 in let two : s ≡ t = eqb-true s t i.1 in let three : a ≡ b = same_bool_is a b h.1 in cc
    is (kinds.Crash a) (kinds.Crash b) e = ap (λ x. kinds.Crash x) (eqb-true a b e)
    is (kinds.Wait a) (kinds.Wait b) e = ap (λ x. kinds.Wait x) (eqb-true a b e)
    is (kinds.Fault c a) (kinds.Fault d b) e =
        let p = and_parts (same_call c d) (same_owner a b) e in let one : c ≡ d = same_call-is c d p.0 in let two : a ≡ b = owner_tells.is a b p.1 in cc
    is (kinds.End j a) (kinds.End i b) e =
        let p = and_parts (j == i) (same_outcome a b) e in let one : j ≡ i = eqb-true j i p.0 in let two : a ≡ b = outcome_tells.is a b p.1 in cc
    is _ _ e = absurd (cc)

    itself : (a : EntryKind) → same_kind a a ≡ true
    itself (kinds.Begin j a) = both (j == j) (same_job a a) (eqb_refl j) (job_tells.itself a)
    itself (kinds.Gain a n k) = both (same_owner a a && (n == n)) (bytes_eq k k) (both (same_owner a a) (n == n) (owner_tells.itself a) (eqb_refl n)) (bytes_eq-refl k)
    itself (kinds.Share h x a k) =
        both ((h == h) && (x == x) && same_owner a a) (bytes_eq k k)
        (both ((h == h) && (x == x)) (same_owner a a) (both (h == h) (x == x) (eqb_refl h) (eqb_refl x)) (owner_tells.itself a)) (bytes_eq-refl k)
    itself (kinds.Release h k) = both (h == h) (bytes_eq k k) (eqb_refl h) (bytes_eq-refl k)
    itself (kinds.Check a k) = both (same_found a a) (bytes_eq k k) (found_tells.itself a) (bytes_eq-refl k)
    itself (kinds.Bar j a k) = both ((j == j) && same_need a a) (bytes_eq k k) (both (j == j) (same_need a a) (eqb_refl j) (need_tells.itself a)) (bytes_eq-refl k)
    itself (kinds.Order j p d a k) =
        both ((j == j) && (p == p) && same_number d d && same_need a a) (bytes_eq k k)
        (both ((j == j) && (p == p) && same_number d d) (same_need a a)
        (both ((j == j) && (p == p)) (same_number d d) (both (j == j) (p == p) (eqb_refl j) (eqb_refl p)) (same_number_tells.itself d)) (need_tells.itself a)) (bytes_eq-refl k)
    itself (kinds.Gone a k) = both (same_owner a a) (bytes_eq k k) (owner_tells.itself a) (bytes_eq-refl k)
    itself (kinds.Log a) = file_tells.itself a
    itself (kinds.Compact a) = file_tells.itself a
    itself (kinds.Talk a) = same_number_tells.itself a
    itself (kinds.Close p s a) = both ((p == p) && (s == s)) (same_bool a a) (both (p == p) (s == s) (eqb_refl p) (eqb_refl s)) (same_bool_refl a)
    itself (kinds.Crash a) = eqb_refl a
    itself (kinds.Wait a) = eqb_refl a
    itself (kinds.Fault c a) = both (same_call c c) (same_owner a a) (calls_tell.itself c) (owner_tells.itself a)
    itself (kinds.End j a) = both (j == j) (same_outcome a a) (eqb_refl j) (outcome_tells.itself a)

pub body_tells : Tells same_body
body_tells = record { is = is; itself = itself }
  where
    is : (a b : FrameText) → same_body a b ≡ true → a ≡ b
    is Opening Opening e = refl
    is Closing Closing e = refl
    is (Bytes a) (Bytes b) e = ap (λ x. Bytes x) (eqb-true a b e)
    is (Line a) (Line b) e = ap (λ x. Line x) (bytes_eq-true a b e)
    is _ _ e = absurd (cc)

    itself : (a : FrameText) → same_body a a ≡ true
    itself Opening = refl
    itself Closing = refl
    itself (Bytes a) = eqb_refl a
    itself (Line a) = bytes_eq-refl a

abbrev frame_of : ℕ → ℕ → Bool → ℕ → ℕ → FrameText → FrameView
frame_of peer slot up epoch seq body = record { peer = peer; slot = slot; up = up; epoch = epoch; seq = seq; body = body }

frame_tells : Tells same_frame
frame_tells = record {
  is = λ a b e.
      let h = and_parts ((a.peer == b.peer) && (a.slot == b.slot) && same_bool a.up b.up && (a.epoch == b.epoch) && (a.seq == b.seq)) (same_body a.body b.body) e in
      let i = and_parts ((a.peer == b.peer) && (a.slot == b.slot) && same_bool a.up b.up && (a.epoch == b.epoch)) (a.seq == b.seq) h.0 in
      let j = and_parts ((a.peer == b.peer) && (a.slot == b.slot) && same_bool a.up b.up) (a.epoch == b.epoch) i.0 in
      let k = and_parts ((a.peer == b.peer) && (a.slot == b.slot)) (same_bool a.up b.up) j.0 in
      let l = and_parts (a.peer == b.peer) (a.slot == b.slot) k.0 in
      ap (λ x. frame_of x a.slot a.up a.epoch a.seq a.body) (eqb-true a.peer b.peer l.0) ∙ ap (λ x. frame_of b.peer x a.up a.epoch a.seq a.body) (eqb-true a.slot b.slot l.1)
      ∙ ap (λ x. frame_of b.peer b.slot x a.epoch a.seq a.body) (same_bool_is a.up b.up k.1) ∙ ap (λ x. frame_of b.peer b.slot b.up x a.seq a.body) (eqb-true a.epoch b.epoch j.1)
      ∙ ap (λ x. frame_of b.peer b.slot b.up b.epoch x a.body) (eqb-true a.seq b.seq i.1) ∙ ap (λ x. frame_of b.peer b.slot b.up b.epoch b.seq x) (body_tells.is a.body b.body h.1);
  itself = λ a.
      both ((a.peer == a.peer) && (a.slot == a.slot) && same_bool a.up a.up && (a.epoch == a.epoch) && (a.seq == a.seq)) (same_body a.body a.body)
      (both ((a.peer == a.peer) && (a.slot == a.slot) && same_bool a.up a.up && (a.epoch == a.epoch)) (a.seq == a.seq)
      (both ((a.peer == a.peer) && (a.slot == a.slot) && same_bool a.up a.up) (a.epoch == a.epoch)
      (both ((a.peer == a.peer) && (a.slot == a.slot)) (same_bool a.up a.up) (both (a.peer == a.peer) (a.slot == a.slot) (eqb_refl a.peer) (eqb_refl a.slot)) (same_bool_refl a.up))
      (eqb_refl a.epoch)) (eqb_refl a.seq)) (body_tells.itself a.body);
}

taken_tells : Tells (λ a b. option_eq same_frame a b)
taken_tells = option_tells same_frame frame_tells

pub frames_tell : Tells same_frames
frames_tell = list_tells same_frame frame_tells

abbrev effect_of : EntryKind → Option FrameView → List FrameView → List (List ℕ) → Effect
effect_of kind taken sent lines = record { kind = kind; taken = taken; sent = sent; lines = lines; calls = [] }

-- what an entry tells of effects is the same
pub effect_seen : (a b : Effect) → same_effect a b ≡ true → as_told a ≡ as_told b
effect_seen a b e =
    let h = and_parts (same_kind a.kind b.kind && option_eq same_frame a.taken b.taken && same_frames a.sent b.sent) (same_lines a.lines b.lines) e in
    let i = and_parts (same_kind a.kind b.kind && option_eq same_frame a.taken b.taken) (same_frames a.sent b.sent) h.0 in
    let j = and_parts (same_kind a.kind b.kind) (option_eq same_frame a.taken b.taken) i.0 in
    ap (λ x. effect_of x a.taken a.sent a.lines) (kind_tells.is a.kind b.kind j.0) ∙ ap (λ x. effect_of b.kind x a.sent a.lines) (taken_tells.is a.taken b.taken j.1)
    ∙ ap (λ x. effect_of b.kind b.taken x a.lines) (frames_tell.is a.sent b.sent i.1) ∙ ap (λ x. effect_of b.kind b.taken b.sent x) (same_lines_tells.is a.lines b.lines h.1)

pub effect_itself : (a : Effect) → same_effect a a ≡ true
effect_itself a =
    both (same_kind a.kind a.kind && option_eq same_frame a.taken a.taken && same_frames a.sent a.sent) (same_lines a.lines a.lines)
    (both (same_kind a.kind a.kind && option_eq same_frame a.taken a.taken) (same_frames a.sent a.sent)
    (both (same_kind a.kind a.kind) (option_eq same_frame a.taken a.taken) (kind_tells.itself a.kind) (taken_tells.itself a.taken)) (frames_tell.itself a.sent))
    (same_lines_tells.itself a.lines)
