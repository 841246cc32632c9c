-- Every job of a run that ended refused has its cause: the sum over all refusals, where a connection is closed by a Close that is taken, or by
-- an entry here. That this is so in every run is RunCauses'.
use Rattle.std.proofs.Common.{◌≡◌, ℕ, true, List, [], ◌∷◌, Option, Some, None, inl, inr, refl, sym, ◌∙◌, subst}
use Rattle.std.specs.Prelude.{reverse}
use Rattle.std.proofs.lemmas.Bool.{eqb-true}
use Rattle.annex_base.specs.Lists.{Each, Member}
use Rattle.annex_base.specs.declared.kinds.Word.{Word}
use Rattle.step_facts.proofs.Below.{SentAreRead}
use Rattle.run_data.specs.declared.entry.Entry.{Entry}
use Rattle.run_data.specs.declared.entry.EntryKind.TheVariants.{End as ends_job}
use Rattle.run_data.specs.declared.job.Outcome.TheVariants.{Refused, TransferRefused}
use Rattle.run_data.specs.declared.job.DropRefusal.{DropRefusal}
use Rattle.run_data.specs.declared.job.DropRefusal.TheVariants as refusals
use Rattle.run_data.specs.declared.job.TransferRefusal.{TransferRefusal}
use Rattle.run_data.specs.declared.job.TransferRefusal.TheVariants as failures
use Rattle.run_data.specs.declared.run.Run.{Run}
use Rattle.run_model.specs.Past.{is_of}
use Rattle.node_model.specs.Rows.{option_is}
use Rattle.run_data.specs.Repos.{IsSetUp}
use Rattle.run_model.specs.Causes.{CauseOf, CausedPast, HasCauses, IsCaused, TransferCauseOf}
use Rattle.node_model.specs.SetUp.{SetUp}
use Rattle.node_model.specs.Jobs.{Drops, Work, running_job}
use Rattle.run_model.specs.States.{works}
use Rattle.node_model.specs.DropStep
use Rattle.node_model.specs.Found.{FindsOutcome}
use Rattle.run_model.specs.Run.{FramesPart, IsRun, job_paths, OwnPart, OwnPast, RunPast, RunStep, set_up}
use Rattle.step_facts.proofs.JobSteps.{turn_at}
use Rattle.dialogue_facts.proofs.MovesLate.{moves_late}
use Rattle.cause_laws.proofs.Standing.{stands}
use Rattle.cause_laws.proofs.RefusalCauses.{DropSettled, Ending, absent_found, barred_found, drop_settled, ending, fault_found, held_found, not_here_found, required_found, transfer_fault_found, transfer_settled}
use Rattle.cause_laws.proofs.ClosedCauses.{ShutsTold}
use Rattle.cause_laws.proofs.ClosedHeard.{closed_heard, heard_closed}
use Rattle.cause_laws.proofs.ClosedFound.{InvalidsFit, OrdersTold, SourcesInOrder, closed_found, lost_found, no_source_found}
use Rattle.past_facts.proofs.Own.{MessagePast}
use Rattle.cause_laws.proofs.EvidenceCauses.{CausesTold, expired_found, lacking_found, old_found}
use Rattle.cause_laws.proofs.AnswerCauses.{FailuresFit, busy_found, denied_found, rejected_found}
use Rattle.cause_laws.proofs.FailuresTold.{failures_fit}
use Rattle.cause_laws.proofs.ToldValues.{run_told}
use Rattle.cause_laws.proofs.InvalidsFit.{invalids_fit}
use Rattle.cause_laws.proofs.OrdersTold.{orders_told}
use Rattle.cause_laws.proofs.SourcesInOrder.{sources_in_order}
use Rattle.run_laws.proofs.FromStep.{message_past}
use Rattle.past_facts.proofs.OwnRuns.{own_past, part_of}

-- what causes are made of, at a repository and a past of a run
pub record Grounds (s : SetUp) (past : List Entry) : Type 0 where
  pub told : (w : Work) → Member w (works past s.number) → w.part ≡ Drops → CausesTold s past w
  pub fit : FailuresFit past
  pub shut' : ShutsTold s past
  pub orders : OrdersTold s past
  pub order : SourcesInOrder s past
  pub invalids : InvalidsFit past

module _ (reads_back : SentAreRead) (s : SetUp) (past : List Entry) (words : ℕ → Option Word) (e : Entry) (h : OwnPast s past) (own : OwnPart s past words e) (frames : FramesPart past s.number words e) (run : MessagePast s.repos past) (left : Grounds s past) (j : ℕ) where
  -- no crash ends a job so
  never : (refusal : DropRefusal) → (x : Ending s past e j (Refused refusal)) → (FindsOutcome (turn_at s past e x.by) x.by.made.taken (Refused refusal) → ⊥) → (DropSettled (turn_at s past e x.by) past refusal → ⊥) → ⊥
  never refusal x now settled = elim (x.why) [
    | inl y ↦ now y
    | inr y ↦ settled (drop_settled (turn_at s past e x.by) past refusal x.by.made.taken (stands reads_back s past h x.by.w x.runs) y)
  ]

  crashed_never : e.kind ≡ ends_job j (Refused refusals.Crashed) → ⊥
  crashed_never is =
      let x = ending s past words e own j (Refused refusals.Crashed) is in
      never refusals.Crashed x (λ y. y) (settled x)
    where
      settled : (x : Ending s past e j (Refused refusals.Crashed)) → DropSettled (turn_at s past e x.by) past refusals.Crashed → ⊥
      settled x (inl z) = z.1
      settled x (inr (inl z)) = let no' : Refused refusals.Crashed ≡ DropStep.denial_outcome (turn_at s past e x.by) = z.1 in cc
      settled x (inr (inr z)) = apart (DropStep.first_end (turn_at s past e x.by)) _ z.2
        where
          apart : (o : Option ℕ) (c : ℕ) → Refused refusals.Crashed ≡ DropStep.expiry c o → ⊥
          apart None c e = cc
          apart (Some m) c e = cc

  drop_caused : (refusal : DropRefusal) → e.kind ≡ ends_job j (Refused refusal) → CauseOf s.repos (s.paths j) past s.number j e.time refusal
  drop_caused refusals.NotPresent is = absent_found reads_back s past words e h own j (moves_late reads_back s) is
  drop_caused (refusals.Required text) is = required_found reads_back s past words e h own j text is
  drop_caused (refusals.Held end) is = held_found reads_back s past words e h own j (moves_late reads_back s) end is
  drop_caused (refusals.Barred other) is = barred_found reads_back s past words e h own j (moves_late reads_back s) other is
  drop_caused (refusals.Lacking proof reasons) is = lacking_found reads_back s past words e h own run left.told
      (λ w m c has. heard_closed s.number past (running_job w) w.heard c (closed_heard s past h.run left.shut' w m) has) j frames proof reasons is
  drop_caused (refusals.Expired end clk) is = expired_found reads_back s past words e h own run j end clk is
  drop_caused (refusals.Denied answer) is = denied_found reads_back s past words e h own j run left.fit frames answer is
  drop_caused (refusals.Lost ordered) is = lost_found reads_back s past words e h own left.shut' j left.orders ordered is
  drop_caused (refusals.OldProtocol n) is = old_found reads_back s past words e h own run j n is
  drop_caused refusals.StoreFault is = fault_found reads_back s past words e h own j is
  drop_caused refusals.Crashed is = absurd (crashed_never is)

  transfer_caused : (refusal : TransferRefusal) → e.kind ≡ ends_job j (TransferRefused refusal) → TransferCauseOf s.repos past s.number j refusal
  transfer_caused failures.NotHere is = not_here_found reads_back s past words e h own j is
  transfer_caused (failures.NoSource reasons) is = no_source_found reads_back s past words e h own left.shut' j left.order left.invalids reasons is
  transfer_caused failures.Busy is = busy_found reads_back s past words e h own j is
  transfer_caused failures.Closed is = closed_found reads_back s past words e h own left.shut' j is
  transfer_caused failures.Rejected is = rejected_found reads_back s past words e h own j run left.fit is
  transfer_caused failures.StoreFault is = transfer_fault_found reads_back s past words e h own j is
  transfer_caused failures.Crashed is =
      let x = ending s past words e own j (TransferRefused failures.Crashed) is in
      absurd (elim (x.why) [
        | inl y ↦ y
        | inr y ↦ elim (transfer_settled (turn_at s past e x.by) past failures.Crashed x.by.made.taken (stands reads_back s past h x.by.w x.runs) y) [ inl z ↦ z | inr z ↦ (cc) ]
      ])

same_repo : (o : Option ℕ) (a b : ℕ) → option_is o a ≡ true → option_is o b ≡ true → a ≡ b
same_repo None a b p q = absurd (cc)
same_repo (Some n) a b p q = sym (eqb-true n a p) ∙ eqb-true n b q

-- **one entry**
pub caused : SentAreRead → (s : SetUp) (paths : ℕ → ℕ → List (List ℕ)) (past : List Entry) (words : ℕ → Option Word) (e : Entry) → OwnPast s past → OwnPart s past words e → FramesPart past s.number words e → is_of s.number e ≡ true → MessagePast s.repos past → Grounds s past → paths s.number ≡ s.paths → IsCaused s.repos paths past e
caused reads_back s paths past words e h own frames mine run left same = record {
  drops = λ r j refusal is kind. subst (λ n. CauseOf s.repos (paths n j) past n j e.time refusal) (same_repo e.repo s.number r mine is)
      (subst (λ (p : ℕ → List (List ℕ)). CauseOf s.repos (p j) past s.number j e.time refusal) (sym same) (drop_caused reads_back s past words e h own frames run left j refusal kind));
  transfers = λ r j refusal is kind. subst (λ n. TransferCauseOf s.repos past n j refusal) (same_repo e.repo s.number r mine is) (transfer_caused reads_back s past words e h own frames run left j refusal kind);
}

-- the premise, of a repository and a past of a run
pub record Left (s : SetUp) (past : List Entry) : Type 0 where
  pub shut' : ShutsTold s past

-- **each refused job of a run by steps has its cause**, where the premise holds at each of its pasts
module _ (reads_back : SentAreRead) (run : Run) (repos : Each IsSetUp run.repos) (left : (r : ℕ) (past : List Entry) → RunPast (set_up run) past → Left (set_up run r) past) where
  grounds : (r : ℕ) (past : List Entry) → RunPast (set_up run) past → Grounds (set_up run r) past
  grounds r past h = let l = left r past h in record {
    told = run_told reads_back run repos r past h;
    fit = failures_fit reads_back run repos past h;
    shut' = l.shut';
    orders = orders_told reads_back (set_up run r) past (own_past run repos r past h);
    order = sources_in_order (set_up run r) past (own_past run repos r past h);
    invalids = invalids_fit reads_back run repos past h;
  }

  entry_caused : (past : List Entry) (e : Entry) → RunPast (set_up run) past → RunStep (set_up run) past e → IsCaused run.repos (job_paths run) past e
  entry_caused past e h x = record {
    drops = λ r j refusal is kind. (at r is).drops r j refusal is kind;
    transfers = λ r j refusal is kind. (at r is).transfers r j refusal is kind;
  }
    where
      at : (r : ℕ) → is_of r e ≡ true → IsCaused run.repos (job_paths run) past e
      at r is =
          let p = part_of (set_up run) past e r x is in
          caused reads_back (set_up run r) (job_paths run) past p.words e (own_past run repos r past h) p.own p.frames is (message_past reads_back run repos past h) (grounds r past h) refl

  all_caused : (past : List Entry) → RunPast (set_up run) past → CausedPast run.repos (job_paths run) past
  all_caused [] h = tt
  all_caused (e ∷ past) h = (entry_caused past e h.1 h.0, all_caused past h.1)

pub run_causes : SentAreRead → (run : Run) → IsRun run → ((r : ℕ) (past : List Entry) → RunPast (set_up run) past → Left (set_up run r) past) → HasCauses run
run_causes reads_back run h left = record { causes = all_caused reads_back run h.repos left (reverse run.entries) h.steps }
