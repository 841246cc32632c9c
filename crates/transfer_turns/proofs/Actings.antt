-- The steps of a job that awaits no frame, by what it makes.
use Rattle.std.proofs.Common.{◌≡◌, ℕ, Bool, true, [], ◌∷◌, Option, Some, None, refl, sym, ◌∙◌}
use Rattle.annex_base.specs.declared.kinds.Call.{Call}
use Rattle.run_data.specs.declared.entry.By.TheVariants.{Job as by_job}
use Rattle.run_data.specs.declared.entry.EntryKind.TheVariants.{End, Fault, Talk}
use Rattle.run_data.specs.declared.job.Outcome.{Outcome}
use Rattle.run_data.specs.declared.job.Outcome.TheVariants.{TransferRefused}
use Rattle.run_data.specs.declared.job.TransferRefusal.TheVariants as failures
use Rattle.object_store.specs.Stores.{Contents}
use Rattle.node_model.specs.Jobs
use Rattle.node_model.specs.Jobs.{Work, fault_of, fault_phase, partner, side_of, to_phase}
use Rattle.node_model.specs.JobStep.{Turn, by_me, ends, quietly, sends_to, talk}
use Rattle.node_model.specs.Look.{Effect, as_told}
use Rattle.content_lock.specs.Rows.{Rows}
use Rattle.drop_phases.specs.declared.phase.Token.TheVariants as tokens
use Rattle.drop_phases.specs.Doing.{HasToken, next_work}
use Rattle.transfer_turns.specs.declared.parcels.ParcelBody.{ParcelBody}
use Rattle.transfer_turns.specs.Parcels.{SendsView, frames_of, text_in}
use Rattle.transfer_turns.specs.Steps.{Seen, StepsIn}
use Rattle.transfer_turns.specs.Turns.{Sight, awaited, output_of, partings_at, step_at, turn_in}
use Rattle.transfer_turns.proofs.Hearings.{Asks}
use Rattle.transfer_turns.proofs.Makings.{end_makes, fault_makes, no_share, quiet_makes, sends_makes, steps_alone}
use Rattle.transfer_turns.proofs.Works.{IsTransfer, after_fault}

module _ (x : Sight) (rows : Rows) (k k' : Seen) (v v' : Work) (sees : ℕ → Bool → Type 0) (alone : awaited v ≡ None) where
  abbrev turn : Option Call → Contents → ℕ → Bool → Turn → Turn
  turn fails c part right rest = turn_in x rows c part right fails rest v

  -- in each turn that has what the step reads, this is asked
  abbrev EachActs : Option Call → (Turn → Effect) → Type 0
  EachActs failed made = (c : Contents) → k.contents ≡ Some c → (part : ℕ) (right : Bool) → sees part right → (rest : Turn) → Asks (step_at None None (turn failed c part right rest)) (made (turn failed c part right rest)) failed k k'

  -- in each such turn the work after it is this
  abbrev EachMoves : (Turn → Effect) → Type 0
  EachMoves made = (c : Contents) (part : ℕ) (right : Bool) (rest : Turn) → v' ≡ next_work (turn None c part right rest) (made (turn None c part right rest))

  -- nothing is sent
  pub acts_quiet : (ended : Bool) → EachActs None (λ t. quietly (talk t) None) → EachMoves (λ t. quietly (talk t) None) → StepsIn x rows k k' v v' None sees (output_of (Talk (Some v.number)) [] ended)
  acts_quiet ended is next =
      steps_alone x rows k k' v v' sees (output_of (Talk (Some v.number)) [] ended) alone
      (λ c told part right rest s.
      let t = turn None c part right rest in
      let a = is c told part right s rest in
      quiet_makes t k k' v' None (step_at None None t) ended a.told (next c part right rest) a.calls)

  -- one thing is sent
  pub acts_sending : (peer : ℕ) (body : ParcelBody) (ended : Bool) → EachActs None (λ t. sends_to t (talk t) None peer (text_in body ∷ [])) → EachMoves (λ t. sends_to t (talk t) None peer (text_in body ∷ []))
      → StepsIn x rows k k' v v' None sees (output_of (Talk (Some v.number)) (record { peer = peer; body = body } ∷ []) ended)
  acts_sending peer body ended is next =
      steps_alone x rows k k' v v' sees (output_of (Talk (Some v.number)) (record { peer = peer; body = body } ∷ []) ended) alone
      (λ c told part right rest s.
      let t = turn None c part right rest in
      let a = is c told part right s rest in
      sends_makes t k k' v' None (Talk (Some v.number)) peer body (step_at None None t) ended a.told (next c part right rest) a.calls)

  -- a call of the store fails
  pub acts_failing : (call : Call) (ended : Bool) → EachActs (Some call) (λ t. quietly (Fault call (by_me t)) None) → IsTransfer v.part
      → ((r time : ℕ) → fault_of r v time call ≡ fault_phase r v v.part (side_of v) v.phase) → v' ≡ to_phase v (Jobs.Ends (TransferRefused failures.StoreFault))
      → StepsIn x rows k k' v v' None sees (output_of (Fault call (by_job v.number)) [] ended)
  acts_failing call ended is transfers moves next =
      steps_alone x rows k k' v v' sees (output_of (Fault call (by_job v.number)) [] ended) alone
      (λ c told part right rest s.
      let t = turn (Some call) c part right rest in
      let a = is c told part right s rest in
      fault_makes t k k' v' None call (step_at None None t) ended a.told (next ∙ sym (moves x.repo rest.look.time ∙ after_fault x.repo v transfers)) a.calls)

  -- the job ends: it has no lock, and nothing of the table but a right to fill its key
  pub acts_ending : (outcome : Outcome) (sends : SendsView) → HasToken v.number v.what.key tokens.Nothing rows → v.heard ≡ [] → frames_of x.ends v.slot sends.items ≡ partings_at x v.slot
      → EachActs None (λ t. as_told (ends t None outcome)) → StepsIn x rows k k' v v' None sees (record { kind = End v.number outcome; sends = sends; ended = true })
  acts_ending outcome sends own none sent is =
      steps_alone x rows k k' v v' sees (record { kind = End v.number outcome; sends = sends; ended = true }) alone
      (λ c told part right rest s.
      let t = turn None c part right rest in
      let a = is c told part right s rest in
      end_makes t k k' v' (step_at None None t) outcome sends (no_share t rows refl own) none sent a.told a.calls)
