-- What follows a request, as one fact.
use Rattle.std.proofs.Common.{◌≡◌, ℕ, List, Option, Some, sym, subst, ◌∙◌}
use Rattle.std.specs.Prelude.{length}
use Rattle.std.proofs.lemmas.Option.{same_Some}
use Rattle.annex_base.specs.declared.kinds.Call.{Call}
use Rattle.node_model.specs.Calls.{to_resume}
use Rattle.content_lock.specs.CallsMade.{MakesCalls}
use Rattle.session_state.specs.Talking.{Tells}
use Rattle.transfer_turns.specs.declared.parcels.Output.{Output}
use Rattle.transfer_turns.specs.Steps.{LeavesBut, Seen}
use Rattle.get_phases.specs.declared.getting.Ending.TheVariants as endings
use Rattle.get_phases.specs.declared.getting.Getting.{Getting}
use Rattle.get_phases.specs.declared.getting.Phase.{Phase}
use Rattle.get_phases.specs.declared.getting.Phase.TheVariants as phases
use Rattle.get_phases.specs.declared.sent.Asked.{Asked}
use Rattle.get_phases.specs.declared.sent.Asked.TheVariants as asked
use Rattle.get_phases.specs.declared.sent.Sent.{Sent}
use Rattle.get_phases.specs.Asking.{AsksPeer, FollowsAsked, IsAsked, IsFailing, WaitsForData, failed_asking}
use Rattle.get_phases.specs.Gets.{fill_in}

module _ (peer : ℕ) (k k' : Seen) (w : Getting) (what : Asked) (is : IsAsked w.number w.job.key peer k.parts what) (leaves : LeavesBut (failed_asking what) k k')
    (made : (part : ℕ) → Tells k.parts (λ p. part ≡ length (p w.job.key)) → MakesCalls (to_resume part) (failed_asking what) k.failing k'.failing) where
  asks : (w' : Getting) (out : Output) → FollowsAsked peer w w' out what → AsksPeer peer k k' w w' out
  asks w' out next = record { what = what; is = is; calls = made; leaves = leaves; next = next }

  -- a get that had its fill, or has it from now on
  pub sent_asks : (bare w' : Getting) (s : Sent) (fill : List ℕ) (out : Output) → what ≡ asked.Sent s → bare ≡ record w { phase = phases.Fresh } → fill ≡ w.job.key → out ≡ s.output → w' ≡ record bare { phase = w'.phase } → WaitsForData fill peer s w'.phase
      → AsksPeer peer k k' w w' out
  sent_asks bare w' s fill out sent from own said rest waits =
      asks w' out (subst (λ (a : Asked). FollowsAsked peer w w' out a) (sym sent) (said, rest ∙ (λ i. record (from i) { phase = w'.phase }), subst (λ (key : List ℕ). WaitsForData key peer s w'.phase) own waits))

  pub failed_asks : (bare w' : Getting) (call : Call) (fill : Option (List ℕ)) (out : Output) → what ≡ asked.Failed call → bare ≡ record w { phase = phases.Fresh } → fill ≡ fill_in w.phase → IsFailing w.number call out
      → w' ≡ record bare { phase = phases.Ends (endings.StoreFault fill) } → AsksPeer peer k k' w w' out
  failed_asks bare w' call fill out failed from own fails next =
      asks w' out (subst (λ (a : Asked). FollowsAsked peer w w' out a) (sym failed) (fails, next ∙ (λ i. record (from i) { phase = phases.Ends (endings.StoreFault (own i)) })))

-- the right that was handed over is that of its key
pub own_fill : (o : Option (List ℕ)) (fill key : List ℕ) → o ≡ Some fill → o ≡ Some key → fill ≡ key
own_fill o fill key had own = same_Some fill key (sym had ∙ own)

-- a phase was put in place of another
pub moved : (w w' : Getting) (ph : Phase) → w' ≡ record w { phase = ph } → w' ≡ record w { phase = w'.phase }
moved w w' ph is = is ∙ (λ i. record w { phase = (sym is i).phase })
