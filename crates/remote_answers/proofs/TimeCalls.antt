-- The calls of the step that is told the target's time.
use Rattle.std.proofs.Common.{◌≡◌, ℕ, ◌+◌, ◌-◌, ◌/◌, ◌<◌, ◌≤◌, ◌^◌, Bool, List, [], Option, Some, None, Result, Ok, Err, refl, sym, ap, ◌∙◌}
use Rattle.std.specs.Prelude.{IfOk, ◌&&◌, not}
use Rattle.annex_base.specs.declared.kinds.Call.{Call}
use Rattle.annex_base.specs.declared.memory.NoMemory.{NoMemory}
use Rattle.drop_proof.specs.Judging.{least_end}
use Rattle.run_data.specs.declared.entry.FrameView.{FrameView}
use Rattle.run_data.specs.declared.job.DropRefusal.TheVariants as refusals
use Rattle.run_data.specs.declared.job.Outcome.TheVariants.{Refused}
use Rattle.node_model.specs.Calls.{to_release}
use Rattle.node_model.specs.DropStep.{times}
use Rattle.node_model.specs.Ends.{End, EndName}
use Rattle.node_model.specs.JobStep.{Turn}
use Rattle.node_model.specs.Knows.{Reading}
use Rattle.node_model.specs.Look.{Effect, failed_in}
use Rattle.node_model.specs.Rows.{is_lost_ordered}
use Rattle.node_model.specs.Turns.{takes}
use Rattle.content_lock.specs.Rows.{Rows}
use Rattle.drop_phases.specs.declared.phase.Phase.TheVariants as phases
use Rattle.drop_phases.specs.declared.turn.Output.{Output}
use Rattle.drop_phases.specs.declared.turn.Taken.TheVariants as takens
use Rattle.drop_phases.specs.Calling.{Failing, MakesEnd, MakesFed, has_open}
use Rattle.remote_requests.specs.Remote.{IsRemote, known_remotely}
use Rattle.drop_phases.specs.Worker.{Worker}
use Rattle.drop_phases.specs.Working.{Rest, phase_as, sight, turn_in}
use Rattle.drop_phases.proofs.Callings.{ends_calls, makes_as}
use Rattle.drop_phases.proofs.FrameCalls.{message_makes, quiet_makes}
use Rattle.remote_answers.proofs.Timing.{by_time, end_there, late, no_time, timed}
use Rattle.p2p_wire.specs.declared.message.Message.{Message}
use Rattle.p2p_wire.specs.declared.message.Message.TheVariants as messages

module _ (read : Reading) (ends_at : EndName → End) (time number : ℕ) (rows : Rows) (w : Worker) (target now : ℕ) (remote : IsRemote target w) (at : w.phase ≡ phases.AsksTime) where
  abbrev turn : (List ℕ → Bool) → Option Call → Rest → Turn
  turn p fails rest = turn_in (sight read ends_at time number) rows p fails rest w

  abbrev Told : Failing → Failing → Result Output NoMemory → Type 0
  Told before after r = MakesFed (sight read ends_at time number) rows w target (takens.Message (messages.Timestamp now)) before after r

  -- no node tells it
  pub untold_makes : (before : Failing) (r : Result Output NoMemory) → 2 ^ 61 ≤ now → IfOk r (λ out. failed_in out.kind ≡ None) → Told before before r
  untold_makes before r high well =
      quiet_makes (sight read ends_at time number) rows w target (takens.Message (messages.Timestamp now)) before r well
      (λ p fails rest f m is. ap (λ (n : Message). (takes (turn p fails rest) f target (phase_as w.phase) n).calls) (let same : m ≡ messages.Timestamp now = cc in same)
      ∙ ap (λ (e : Effect). e.calls) (sym (no_time (sight read ends_at time number) rows p fails rest w f target now remote at high)))

  -- what the step makes that takes it
  time_made : (end : Option ℕ) → now < 2 ^ 61 → end ≡ least_end (known_remotely read target w) → (p : List ℕ → Bool) (fails : Option Call) (rest : Rest) (f : FrameView)
      → takes (turn p fails rest) f target (phase_as w.phase) (messages.Timestamp now) ≡ times (turn p fails rest) f now end
  time_made end low known p fails rest f =
      by_time read ends_at time w target now remote at low number rows p fails rest f ∙ ap (times (turn p fails rest) f now) (sym (end_there read ends_at time w target now remote at end known number rows p fails rest))

  -- the order follows
  pub order_makes : (end : Option ℕ) (before : Failing) (r : Result Output NoMemory) → now < 2 ^ 61 → end ≡ least_end (known_remotely read target w)
      → ((t : Turn) (f : FrameView) → t.clock ≡ read.clock → t.look.time ≡ time → (times t f now end).calls ≡ []) → IfOk r (λ out. failed_in out.kind ≡ None) → Told before before r
  order_makes end before r low known none well =
      quiet_makes (sight read ends_at time number) rows w target (takens.Message (messages.Timestamp now)) before r well
      (λ p fails rest f m is. ap (λ (n : Message). (takes (turn p fails rest) f target (phase_as w.phase) n).calls) (let same : m ≡ messages.Timestamp now = cc in same)
      ∙ (ap (λ (e : Effect). e.calls) (time_made end low known p fails rest f) ∙ none (turn p fails rest) f refl refl))

  -- there is time
  pub timed_none : (clock end : ℕ) → clock ≡ read.clock time → clock < end → (t : Turn) (f : FrameView) → t.clock ≡ read.clock → t.look.time ≡ time → (times t f now (Some end)).calls ≡ []
  timed_none clock end same lt t f clocks at_time =
      ap (λ (e : Effect). e.calls) (sym (timed read ends_at time w target now remote at t f clock end (now + (end - clock) / 1000) (same ∙ sym (λ i. clocks i (at_time i))) lt refl))

  -- the locks have expired
  pub expired_makes : (clock end : ℕ) (before after : Failing) (r : Result Output NoMemory) → now < 2 ^ 61 → Some end ≡ least_end (known_remotely read target w) → clock ≡ read.clock time → end ≤ clock
      → MakesEnd rows w (Refused (refusals.Expired end clock)) before after r → Told before after r
  expired_makes clock end before after (Err e) low known same le m = m
  expired_makes clock end before after (Ok out) low known same le m =
      message_makes (sight read ends_at time number) rows w target (messages.Timestamp now) before after (Ok out) (
        m.left,
        λ p rest f. let t = turn p (failed_in out.kind) rest in
            makes_as (takes t f target (phase_as w.phase) (messages.Timestamp now)).calls (to_release (has_open rows w && not (is_lost_ordered (Refused (refusals.Expired end clock))))) (failed_in out.kind) (failed_in out.kind) before after
            (ap (λ (e : Effect). e.calls) (time_made (Some end) low known p (failed_in out.kind) rest f ∙ sym (late read ends_at time w target now remote at t f clock end same le)) ∙ ends_calls t (Some f) (Refused (refusals.Expired end clock))) refl m,
      ) (λ no. absurd no)
