-- The causes of Lost, Closed and NoSource, where each connection that is found closed was closed by its peer or by an entry here.
use Rattle.std.proofs.Common.{◌≡◌, ℕ, zero, suc, Bool, true, false, List, [], ◌∷◌, Option, Some, None, inl, inr, refl, sym, ap, ◌∙◌, subst}
use Rattle.std.specs.Prelude.{◌&&◌, length, map, slice_get, take}
use Rattle.std.specs.List.{list_any}
use Rattle.annex_base.specs.Lists.{Each, Member}
use Rattle.annex_base.specs.declared.kinds.Word.{Word}
use Rattle.step_facts.proofs.Below.{SentAreRead}
use Rattle.drop_proof.specs.declared.rule.Side.{Side}
use Rattle.drop_proof.specs.declared.rule.Side.TheVariants.{Local, Remote}
use Rattle.run_data.specs.declared.entry.Entry.{Entry}
use Rattle.run_data.specs.declared.entry.EntryKind.TheVariants.{End as ends_job}
use Rattle.run_data.specs.declared.job.Outcome.TheVariants.{Refused, TransferRefused}
use Rattle.run_data.specs.declared.job.DropRefusal.TheVariants as refusals
use Rattle.run_data.specs.declared.entry.FrameView.{FrameView}
use Rattle.run_data.specs.declared.job.SourceCause.{SourceCause}
use Rattle.run_data.specs.declared.job.SourceCause.TheVariants as sources
use Rattle.run_data.specs.declared.job.SourceFailure.{SourceFailure}
use Rattle.p2p_wire.specs.declared.message.Message.TheVariants.{Get, Invalid}
use Rattle.run_data.specs.declared.job.TransferRefusal.TheVariants as failures
use Rattle.run_model.specs.Past.{Occurs, is_of}
use Rattle.run_model.specs.Said.{Says, message_in}
use Rattle.run_model.specs.Frames.{FlyingFrame, is_job, last_request, said_of, up_of, way_of}
use Rattle.run_model.specs.Causes.{AnswersRequest, FoundNoSource, SourceCauseOf, TookGet, WasClosed, WasLost, is_order, sources_of}
use Rattle.node_model.specs.SetUp.{SetUp}
use Rattle.node_model.specs.Jobs
use Rattle.node_model.specs.Jobs.{AsksTime, Denied, Drops, Ends, Fresh, Late, Next, Orders, Phase, Removed, Work, partner, running_job, side_of}
use Rattle.run_model.specs.States.{works}
use Rattle.node_model.specs.Knows.{obeyed_outcome, proof_by}
use Rattle.node_model.specs.JobStep.{Turn}
use Rattle.node_model.specs.DropStep
use Rattle.node_model.specs.DropStep.{removal_outcome, target}
use Rattle.node_model.specs.Found.{HasOutcome}
use Rattle.node_model.specs.TransferStep.{sources}
use Rattle.node_model.specs.Turns.{outcome_of}
use Rattle.run_model.specs.Run.{OwnPart, OwnPast}
use Rattle.step_facts.proofs.JobSteps.{turn_at}
use Rattle.job_facts.proofs.TalkFacts.{Fits}
use Rattle.job_facts.proofs.WorkFits.{works_fit}
use Rattle.job_facts.proofs.Aims.{aims}
use Rattle.job_facts.proofs.PhasesFit.{target_peer}
use Rattle.dialogue_facts.proofs.NotClosed.{AtRest, NotKind, rest_not}
use Rattle.cause_laws.proofs.Refusals.{Stands, side_in, side_is}
use Rattle.cause_laws.proofs.Standing.{stands}
use Rattle.cause_laws.proofs.RefusalCauses.{DropSettled, Ending, drop_settled, ending, job_of, transfer_settled}
use Rattle.cause_laws.proofs.ClosedCauses.{ShutStands, ShutsTold, SourceToldOf, shut_stands, sources_told}
use Rattle.cause_laws.proofs.AnswerCauses.{own_of}
use Rattle.dialogue_facts.proofs.Contents.{absent_row}
use Rattle.job_facts.proofs.PhaseFacts.{only_time, only_orders}

-- **what is left of Lost**: it says that the job ordered exactly where an order entry of it stands
abbrev pub OrdersTold : SetUp → List Entry → Type 0
OrdersTold s past = (w : Work) → Member w (works past s.number) → (ordered : Bool) → w.phase ≡ Ends (Refused (refusals.Lost ordered)) → list_any (λ e. is_job s.number w.number e && is_order e.kind) past ≡ ordered

-- **what is left of NoSource**: a get has the causes of the first of its peers, in order
abbrev pub SourcesInOrder : SetUp → List Entry → Type 0
SourcesInOrder s past = (w : Work) → Member w (works past s.number) → w.phase ≡ Next → map (λ x. x.repo) w.causes ≡ take (length w.causes) (sources_of s.number (length s.repos) w.what.peer)

-- **what is left of a source's absent and invalid**: INVALID answers a GET by whose entry the content was absent, or shorter than the place asked for
abbrev pub InvalidsFit : List Entry → Type 0
InvalidsFit past = (r : ℕ) (x : Entry) (before : List Entry) → Occurs past x before → is_of r x ≡ true → (f : FrameView) → x.taken ≡ Some f → f.up ≡ false → message_in f.body ≡ Says Invalid
    → (asked : FlyingFrame) → last_request before (up_of (way_of r f)) ≡ Some asked → (start : ℕ) (file key : List ℕ) → said_of asked ≡ Says (Get start file key) → TookGet before f.peer start key asked

took_get : (past : List Entry) → InvalidsFit past → (r j peer start : ℕ) (file key : List ℕ) (a : AnswersRequest past r j peer (Says (Get start file key)) (Says Invalid)) → TookGet a.hears.before peer start key a.request
took_get past fit r j peer start file key a =
    let x = a.hears in
    subst (λ p. TookGet x.before p start key a.request) x.peer_is (fit r x.entry x.before x.occurs (own_of r j x.entry x.own) x.f x.takes_it x.down x.says a.request a.last start file key a.asked_is)

source_found : (past : List Entry) → InvalidsFit past → (r j : ℕ) (key : List ℕ) (peer : ℕ) (cause : SourceCause) → SourceToldOf past r j key peer cause → SourceCauseOf past r j key peer cause
source_found past fit r j key peer sources.Closed x = x
source_found past fit r j key peer sources.Wrong x = x
source_found past fit r j key peer sources.Absent x = let t = took_get past fit r j peer 0 x.0 key x.1 in (x.0, x.1, t, absent_row t.before peer key t.short)
source_found past fit r j key peer sources.Invalid x = (x.0, x.1, x.2, x.3, took_get past fit r j peer x.0 x.1 key x.3)

sources_found : (past : List Entry) → InvalidsFit past → (r j : ℕ) (key : List ℕ) (xs : List SourceFailure) → Each (λ x. SourceToldOf past r j key x.repo x.cause) xs → Each (λ x. SourceCauseOf past r j key x.repo x.cause) xs
sources_found past fit r j key [] a = tt
sources_found past fit r j key (x ∷ xs) a = (source_found past fit r j key x.repo x.cause a.0, sources_found past fit r j key xs a.1)

take_all : {X : Type 0} (xs : List X) (n : ℕ) → slice_get xs n ≡ None → take n xs ≡ xs
take_all [] zero e = refl
take_all [] (suc n) e = refl
take_all (x ∷ xs) zero e = absurd (cc)
take_all (x ∷ xs) (suc n) e = ap (λ ys. x ∷ ys) (take_all xs n e)

pub sources_same : (t : Turn) (o : Option ℕ) → sources t o ≡ sources_of t.read.repo t.read.count o
sources_same t None = refl
sources_same t (Some peer) = refl

module _ (reads_back : SentAreRead) (s : SetUp) (past : List Entry) (words : ℕ → Option Word) (e : Entry) (h : OwnPast s past) (own : OwnPart s past words e) (told : ShutsTold s past) (j : ℕ) where
  abbrev r : ℕ
  r = s.number

  -- **Lost**
  pub lost_found : OrdersTold s past → (ordered : Bool) → e.kind ≡ ends_job j (Refused (refusals.Lost ordered)) → WasLost past r j ordered
  lost_found orders ordered is =
      let x = ending s past words e own j (Refused (refusals.Lost ordered)) is in
      subst (λ n. WasLost past r n ordered) (sym x.number_is) (elim (x.why) [
        | inl y ↦ absurd y
        | inr y ↦ settled x (drop_settled (turn_at s past e x.by) past (refusals.Lost ordered) x.by.made.taken (stands reads_back s past h x.by.w x.runs) y)
      ])
    where
      settled : (x : Ending s past e j (Refused (refusals.Lost ordered))) → DropSettled (turn_at s past e x.by) past (refusals.Lost ordered) → WasLost past r x.by.w.number ordered
      settled x (inl z) = record {
        d = job_of s past h x.by.w x.runs;
        closed = subst (ShutStands r past (running_job x.by.w)) z.0 (shut_stands s past h.run told x.by.w x.runs);
        ordered_is = orders x.by.w x.runs ordered z.0;
      }
      settled x (inr (inl z)) = absurd (let no' : Refused (refusals.Lost ordered) ≡ DropStep.denial_outcome (turn_at s past e x.by) = z.1 in cc)
      settled x (inr (inr z)) = absurd (apart (DropStep.first_end (turn_at s past e x.by)) _ z.2)
        where
          apart : (o : Option ℕ) (c : ℕ) → Refused (refusals.Lost ordered) ≡ DropStep.expiry c o → ⊥
          apart None c e = cc
          apart (Some m) c e = cc

  -- **NoSource**
  pub no_source_found : SourcesInOrder s past → InvalidsFit past → (reasons : List SourceFailure) → e.kind ≡ ends_job j (TransferRefused (failures.NoSource reasons)) → FoundNoSource s.repos past r j reasons
  no_source_found order fit reasons is =
      let x = ending s past words e own j (TransferRefused (failures.NoSource reasons)) is in
      let w = x.by.w in
      let t = turn_at s past e x.by in
      subst (λ n. FoundNoSource s.repos past r n reasons) (sym x.number_is) (elim (x.why) [
        | inl y ↦ record {
          d = job_of s past h w x.runs;
          all = ap (map (λ (z : SourceFailure). z.repo)) y.2 ∙ order w x.runs y.0
              ∙ take_all (sources_of r (length s.repos) w.what.peer) (length w.causes) (ap (λ xs. slice_get xs (length w.causes)) (sym (sources_same t w.what.peer)) ∙ y.1);
          causes = subst (Each (λ z. SourceCauseOf past r w.number w.what.key z.repo z.cause)) (sym y.2) (sources_found past fit r w.number w.what.key w.causes (sources_told reads_back s past h told w x.runs));
        }
        | inr y ↦ elim (transfer_settled t past (failures.NoSource reasons) x.by.made.taken (stands reads_back s past h w x.runs) y) [ inl z ↦ absurd z | inr z ↦ absurd (cc) ]
      ])

  -- **Closed**
  pub closed_found : e.kind ≡ ends_job j (TransferRefused failures.Closed) → WasClosed past r j
  closed_found is =
      let x = ending s past words e own j (TransferRefused failures.Closed) is in
      subst (WasClosed past r) (sym x.number_is) (elim (x.why) [
        | inl y ↦ absurd y
        | inr y ↦ settled x y
      ])
    where
      settled : (x : Ending s past e j (TransferRefused failures.Closed)) → HasOutcome (turn_at s past e x.by) x.by.made.taken (TransferRefused failures.Closed) → WasClosed past r x.by.w.number
      settled x y = go w.phase refl y.outcome_is
        where
          w : Work
          w = x.by.w

          t : Turn
          t = turn_at s past e x.by

          kind : x.by.made.kind ≡ ends_job j (TransferRefused failures.Closed)
          kind = sym (ap (λ (q : Entry). q.kind) x.by.is) ∙ is

          by_word : (word : Option Word) → TransferRefused failures.Closed ≡ obeyed_outcome word (proof_by t.read t.w) → ⊥
          by_word None e = absurd (cc)
          by_word (Some Word.Absent) e = absurd (cc)
          by_word (Some v) e = absurd (cc)

          by_side : (side : Side) → TransferRefused failures.Closed ≡ removal_outcome side t → ⊥
          by_side Local e = by_word None e
          by_side Remote e = by_word (t.look.words (target t)) e

          by_end : (end : Option ℕ) (clk : ℕ) → TransferRefused failures.Closed ≡ DropStep.expiry clk end → ⊥
          by_end None clk e = absurd (cc)
          by_end (Some end) clk e = absurd (cc)

          rest : (phase : Phase) → w.phase ≡ phase → AtRest phase → ⊥
          rest phase at r = subst NotKind kind (rest_not t x.by.made (subst AtRest (sym at) r) x.by.does)

          -- a remote drop has its target's connection
          no_target : w.part ≡ Drops → side_in (running_job w) ≡ Remote → w.what.peer ≡ None → ⊥
          no_target part side none = let some = target_peer s w (aims s past h.run w x.runs) part (sym (side_is w) ∙ side) in let both : None ≡ Some (Jobs.target_of r w) = sym none ∙ some in cc

          alone : (phase : Phase) → w.phase ≡ phase → partner w.what.peer phase ≡ None
          alone phase at = ap (partner w.what.peer) (sym at) ∙ y.alone

          go : (phase : Phase) → w.phase ≡ phase → TransferRefused failures.Closed ≡ outcome_of t phase → WasClosed past r w.number
          go (Ends (TransferRefused failures.Closed)) at o =
              let z = subst (ShutStands r past (running_job w)) at (shut_stands s past h.run told w x.runs) in
              record { d = job_of s past h w x.runs; peer = z.0; peer_is = z.1; closed = z.2 }
          go (Ends q) at o = absurd (cc)
          go Removed at o = absurd (by_side (side_of t.w) o)
          go Denied at o = absurd (cc)
          go (Late time) at o = absurd (by_end (DropStep.first_end t) (t.clock time) o)
          go Fresh at o = absurd (rest Fresh at tt)
          go Next at o = absurd (rest Next at tt)
          go AsksTime at o = absurd (no_target (only_time w.part (subst (Fits w.part) at (works_fit s past h.run w x.runs))) (subst (Stands r past (running_job w)) at (stands reads_back s past h w x.runs)) (alone AsksTime at))
          go Orders at o = absurd (no_target (only_orders w.part (subst (Fits w.part) at (works_fit s past h.run w x.runs))) (subst (Stands r past (running_job w)) at (stands reads_back s past h w x.runs)) (alone Orders at))
          go phase at o = absurd (let none = alone phase at in cc)
