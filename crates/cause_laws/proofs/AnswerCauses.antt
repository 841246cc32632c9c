-- The causes of refusals that rest on a peer's answer: the target denied the order, a copy's peer rejected it or is filling the key.
use Rattle.std.proofs.Common.{◌≡◌, ℕ, true, false, List, [], Option, Some, None, ◌⊎◌, inl, inr, sym, ap, ◌∙◌, subst}
use Rattle.std.specs.Prelude.{option_map, slice_get}
use Rattle.std.proofs.lemmas.Bool.{and_parts}
use Rattle.annex_base.specs.declared.kinds.Found.TheVariants as found
use Rattle.annex_base.specs.declared.kinds.Word.{Word}
use Rattle.step_facts.proofs.Below.{SentAreRead}
use Rattle.run_data.specs.declared.entry.Entry.{Entry}
use Rattle.run_data.specs.declared.entry.EntryKind.{EntryKind}
use Rattle.run_data.specs.declared.entry.EntryKind.TheVariants.{Check, Fault, End as ends_job}
use Rattle.run_data.specs.declared.entry.FrameView.{FrameView}
use Rattle.run_data.specs.declared.job.Denial.{Denial}
use Rattle.run_data.specs.declared.job.Outcome.TheVariants.{Refused, TransferRefused}
use Rattle.run_data.specs.declared.job.DropRefusal.TheVariants as refusals
use Rattle.run_data.specs.declared.job.TransferRefusal.TheVariants as failures
use Rattle.run_model.specs.Past.{Occurs, is_of}
use Rattle.p2p_wire.specs.declared.message.Message.TheVariants.{Failure, Put, Remove, RemoveBefore, Valid}
use Rattle.p2p_wire.specs.Messages.{order_of}
use Rattle.run_model.specs.Said.{Said, Says, message_in}
use Rattle.run_model.specs.Frames.{FlyingFrame, is_job, last_request, said_of, frames_sent, sending_entry, taken_count, up_of, way_of}
use Rattle.run_model.specs.Causes.{AnswersRequest, FoundFilled, HearsMessage, IsSentBy, WasBusy, WasDenied, WasRejected, denied_by, rejects}
use Rattle.node_model.specs.SetUp.{SetUp}
use Rattle.run_model.specs.Words.{word_of, word_of_kind, word_told}
use Rattle.node_model.specs.Jobs.{running_job}
use Rattle.node_model.specs.Knows.{denial_of}
use Rattle.node_model.specs.DropStep
use Rattle.run_model.specs.Run.{FramesPart, OwnPart, OwnPast}
use Rattle.step_facts.proofs.JobSteps.{turn_at}
use Rattle.job_facts.proofs.GetsBegin.{no_step}
use Rattle.dialogue_facts.proofs.FreshSteps.{of_kind}
use Rattle.cause_laws.proofs.Refusals.{TransferStands, target_in, target_is}
use Rattle.cause_laws.proofs.Standing.{stands}
use Rattle.cause_laws.proofs.DeniedWords.{DeniedAt, DeniedBy, denied_words}
use Rattle.cause_laws.proofs.RefusalCauses.{DropSettled, Ending, drop_settled, ending, ending_words, job_of, transfer_settled}
use Rattle.past_facts.proofs.Own.{Meets, MessagePast}
use Rattle.step_facts.proofs.Flights.{occurs_always}

-- ---- what is left: answers fit their requests

-- **what is left of Denied and Rejected**: an entry whose FAILURE a job takes has found what the job's last request asks
abbrev pub FailsFor : Said → EntryKind → Type 0
FailsFor (Says (Remove key)) kind = (answer : Denial) × (denied_by kind ≡ Some answer)
FailsFor (Says (RemoveBefore n key)) kind = (answer : Denial) × (denied_by kind ≡ Some answer)
FailsFor (Says (Put file key)) kind = rejects kind ≡ true
FailsFor (Says Valid) kind = rejects kind ≡ true
FailsFor asked kind = Unit {0}

abbrev pub FailuresFit : List Entry → Type 0
FailuresFit past = (r : ℕ) (x : Entry) (before : List Entry) → Occurs past x before → is_of r x ≡ true → (f : FrameView) → x.taken ≡ Some f → f.up ≡ false → message_in f.body ≡ Says Failure
    → (asked it : FlyingFrame) → last_request before (up_of (way_of r f)) ≡ Some asked → slice_get (frames_sent before (way_of r f)) (taken_count before (way_of r f)) ≡ Some it → FailsFor (said_of asked) it.entry.kind

-- ---- the sender

denial_is : (kind : EntryKind) (answer : Denial) → denied_by kind ≡ Some answer → denial_of (word_of_kind kind) ≡ answer
denial_is (Check found.Late key) answer e = cc
denial_is (Check found.Barred key) answer e = cc
denial_is (Check found.Held key) answer e = cc
denial_is (Fault call by) answer e = cc
denial_is (Check found.Present key) answer e = absurd (cc)
denial_is (Check found.Absent key) answer e = absurd (cc)
denial_is (Check found.Nolock key) answer e = absurd (cc)
denial_is kind answer e = absurd (cc)

order_fails : (deadline : Option ℕ) (key : List ℕ) (kind : EntryKind) → FailsFor (Says (order_of deadline key)) kind → (answer : Denial) × (denied_by kind ≡ Some answer)
order_fails None key kind x = x
order_fails (Some n) key kind x = x

pub own_of : (r j : ℕ) (e : Entry) → is_job r j e ≡ true → is_of r e ≡ true
own_of r j e h = (and_parts (is_of r e) _ h).0

module _ (reads_back : SentAreRead) (s : SetUp) (past : List Entry) (words : ℕ → Option Word) (e : Entry) (h : OwnPast s past) (own : OwnPart s past words e) (j : ℕ) where
  abbrev r : ℕ
  r = s.number

  module _ (run : MessagePast s.repos past) where
    -- the frame that is taken was sent
    flew : (k peer : ℕ) (m : Said) (x : HearsMessage past r k peer m) → (it : FlyingFrame) × (slice_get (frames_sent x.before (way_of r x.f)) (taken_count x.before (way_of r x.f)) ≡ Some it)
    flew k peer m x =
        let t = (occurs_always (Meets s.repos) past x.entry x.before run x.occurs).frames r x.f (own_of r k x.entry x.own) x.takes_it in
        (t.it, t.next)

    sent_by : (k peer : ℕ) (m : Said) (x : HearsMessage past r k peer m) (it : FlyingFrame) → slice_get (frames_sent x.before (way_of r x.f)) (taken_count x.before (way_of r x.f)) ≡ Some it → IsSentBy past r k peer m x
    sent_by k peer m x it next = record { s = sending_entry it; sent_is = ap (option_map sending_entry) next }

    module _ (fit : FailuresFit past) where
      fails : (k peer : ℕ) (asked : Said) (a : AnswersRequest past r k peer asked (Says Failure)) (it : FlyingFrame) → slice_get (frames_sent a.hears.before (way_of r a.hears.f)) (taken_count a.hears.before (way_of r a.hears.f)) ≡ Some it → FailsFor asked it.entry.kind
      fails k peer asked a it next =
          let x = a.hears in
          subst (λ q. FailsFor q it.entry.kind) a.asked_is (fit r x.entry x.before x.occurs (own_of r k x.entry x.own) x.f x.takes_it x.down x.says a.request it a.last next)

      -- **Denied**
      pub denied_found : FramesPart past r words e → (answer : Denial) → e.kind ≡ ends_job j (Refused (refusals.Denied answer)) → WasDenied past r j answer
      unfolding sent_by
      denied_found frames answer is =
          let z = ending_words s past words e own j (Refused (refusals.Denied answer)) is in
          subst (λ n. WasDenied past r n answer) (sym z.0.number_is) (elim (z.0.why) [
            | inl y ↦ absurd y
            | inr y ↦ settled z.0 z.1 (drop_settled (turn_at s past e z.0.by) past (refusals.Denied answer) z.0.by.made.taken (stands reads_back s past h z.0.by.w z.0.runs) y)
          ])
        where
          same_answer : (a b : Denial) → Refused (refusals.Denied a) ≡ Refused (refusals.Denied b) → a ≡ b
          same_answer a b e = cc

          settled : (x : Ending s past e j (Refused (refusals.Denied answer))) → x.by.look.words ≡ words → DropSettled (turn_at s past e x.by) past (refusals.Denied answer) → WasDenied past r x.by.w.number answer
          settled x spoke (inl z) = absurd z.1
          settled x spoke (inr (inr z)) = absurd (apart (DropStep.first_end (turn_at s past e x.by)) _ z.2)
            where
              apart : (o : Option ℕ) (c : ℕ) → Refused (refusals.Denied answer) ≡ DropStep.expiry c o → ⊥
              apart None c e = cc
              apart (Some m) c e = cc
          settled x spoke (inr (inl z)) =
              let w = x.by.w in
              let d : DeniedBy s past (running_job w) = subst (DeniedAt s past (running_job w)) z.0 (denied_words reads_back s past h w x.runs) in
              let t = target_in r (running_job w) in
              let a = d.refused in
              let f = flew w.number t (Says Failure) a.hears in
              let kind = order_fails d.deadline w.what.key f.0.entry.kind (fails w.number t (Says (order_of d.deadline w.what.key)) a f.0 f.1) in
              let told : words t ≡ word_of_kind f.0.entry.kind = frames.tells j (Refused (refusals.Denied answer)) is t ∙ ap (λ n. word_told past r n t) x.number_is ∙ d.word ∙ ap word_of f.1 in
              let stated : answer ≡ denial_of (x.by.look.words (DropStep.target (turn_at s past e x.by))) = same_answer answer _ z.1 in
              let same : answer ≡ kind.0 = stated ∙ ap (λ g. denial_of (g (DropStep.target (turn_at s past e x.by)))) spoke ∙ ap (λ n. denial_of (words n)) (sym (target_is r w)) ∙ ap denial_of told ∙ denial_is f.0.entry.kind kind.0 kind.1 in
              record {
                d = job_of s past h w x.runs;
                deadline = d.deadline;
                refused = a;
                by = sent_by w.number t (Says Failure) a.hears f.0 f.1;
                found = kind.1 ∙ ap (λ n. Some n) (sym same);
              }

      -- **Rejected**
      pub rejected_found : e.kind ≡ ends_job j (TransferRefused failures.Rejected) → WasRejected past r j
      unfolding sent_by
      rejected_found is =
          let x = ending s past words e own j (TransferRefused failures.Rejected) is in
          subst (WasRejected past r) (sym x.number_is) (elim (x.why) [
            | inl y ↦ absurd y
            | inr y ↦ elim (transfer_settled (turn_at s past e x.by) past failures.Rejected x.by.made.taken (stands reads_back s past h x.by.w x.runs) y) [ inl z ↦ now x z | inr z ↦ absurd (cc) ]
          ])
        where
          now : (x : Ending s past e j (TransferRefused failures.Rejected)) → TransferStands r past (running_job x.by.w) failures.Rejected → WasRejected past r x.by.w.number
          now x (peer, peer_is, asked, which, a) =
              let w = x.by.w in
              let f = flew w.number peer (Says Failure) a.hears in
              record {
                d = job_of s past h w x.runs;
                peer = peer;
                peer_is = peer_is;
                asked = Says asked;
                asked_is = elim (which) [ inl v ↦ inl (ap Says v) | inr v ↦ inr ([], ap Says v) ];
                refused = a;
                by = sent_by w.number peer (Says Failure) a.hears f.0 f.1;
                found = by f.0.entry.kind which (fails w.number peer (Says asked) a f.0 f.1);
              }
            where
              by : (kind : EntryKind) → (asked ≡ Valid) ⊎ (asked ≡ Put [] x.by.w.what.key) → FailsFor (Says asked) kind → rejects kind ≡ true
              by kind (inl v) y = subst (λ m. FailsFor (Says m) kind) v y
              by kind (inr v) y = subst (λ m. FailsFor (Says m) kind) v y

  -- **Busy**
  pub busy_found : e.kind ≡ ends_job j (TransferRefused failures.Busy) → FoundFilled s.repos past r j ⊎ WasBusy past r j
  busy_found is =
      let x = ending s past words e own j (TransferRefused failures.Busy) is in
      let w = x.by.w in
      subst (λ n. FoundFilled s.repos past r n ⊎ WasBusy past r n) (sym x.number_is) (elim (x.why) [
        | inl y ↦ inl (record {
          d = job_of s past h w x.runs;
          kind_is = (of_kind s past h.run w x.runs).0 y.0;
          first = no_step reads_back s past h.run w x.runs y.0 y.1;
          absent = y.2;
          filled = y.3;
        })
        | inr y ↦ elim (transfer_settled (turn_at s past e x.by) past failures.Busy x.by.made.taken (stands reads_back s past h w x.runs) y) [
          | inl z ↦ inr (record { d = job_of s past h w x.runs; peer = z.0; peer_is = z.1; file = []; busy = z.2 })
          | inr z ↦ absurd (cc)
        ]
      ])
