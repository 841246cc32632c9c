-- Where a local drop stands after a step that takes no frame.
use Rattle.std.proofs.Common.{◌≡◌, true, false, Result, Ok, Err, refl, sym, ap, subst, ◌∙◌}
use Rattle.std.specs.Prelude.{IfOk}
use Rattle.annex_base.specs.declared.memory.NoMemory.{NoMemory}
use Rattle.node_model.specs.Knows.{Reading}
use Rattle.drop_phases.specs.declared.phase.Token.TheVariants as tokens
use Rattle.drop_phases.specs.declared.turn.Output.{Output}
use Rattle.drop_phases.specs.Sends.{SendsView}
use Rattle.content_lock.specs.declared.refusals.BarRefused.{BarRefused}
use Rattle.content_lock.specs.declared.refusals.BarRefused.TheVariants as bars
use Rattle.drop_phases.specs.Worker.{Worker}
use Rattle.drop_phases.specs.Begun.{HasBegun, HasEnded, HasGone, IsLast, IsOnward}
use Rattle.drop_phases.specs.Leaving.{FollowsBarRefused}

pub ended_gone : (r : Reading) (w w' : Worker) (result : Result Output NoMemory) → IfOk result (HasEnded w w') → IfOk result (HasGone r w w')
ended_gone r w w' (Ok out) h =
    record {
      goes_on = λ going. absurd (let both : true ≡ false = sym h.ended ∙ going in cc);
      onward = λ going. absurd (let both : true ≡ false = sym h.ended ∙ going in cc);
      ended = λ _. h.bare;
      last = λ _. h.last;
      slot = h.slot;
    }
ended_gone r w w' (Err e) h = tt

pub removed_gone : (r : Reading) (w w' : Worker) (result : Result Output NoMemory) → IfOk result (λ out. (r : Reading) → HasGone r w w' out) → IfOk result (HasGone r w w')
removed_gone r w w' (Ok out) gone = gone r
removed_gone r w w' (Err e) gone = tt

-- ---- a refusal

pub refusal_gone : (r : Reading) (w w' : Worker) (made : Output) (result : Result Output NoMemory) → w.token ≡ tokens.Nothing → made.ended ≡ true → IsLast w.number made.kind → w' ≡ w → result ≡ Ok made → IfOk result (HasGone r w w')
refusal_gone r w w' made result bare ended last same is =
    subst (λ (o : Result Output NoMemory). IfOk o (HasGone r w w')) (sym is) (
    record {
      goes_on = λ going. absurd (let both : true ≡ false = sym ended ∙ going in cc);
      onward = λ going. absurd (let both : true ≡ false = sym ended ∙ going in cc);
      ended = λ _. ap (λ (u : Worker). u.token) same ∙ bare;
      last = λ _. last;
      slot = ap (λ (u : Worker). u.slot) same;
    }
    )

pub unbarred_gone : (r : Reading) (w w' : Worker) (sends : SendsView) (why : BarRefused) (result : Result Output NoMemory) → w.token ≡ tokens.Nothing → FollowsBarRefused why w w' sends result → IfOk result (HasGone r w w')
unbarred_gone r w w' sends bars.Absent result bare is = refusal_gone r w w' _ result bare refl refl is.0 is.1
unbarred_gone r w w' sends (bars.Barred job) result bare is = refusal_gone r w w' _ result bare refl refl is.0 is.1
unbarred_gone r w w' sends (bars.Held hold until) result bare is = refusal_gone r w w' _ result bare refl refl is.0 is.1
unbarred_gone r w w' sends bars.StoreFault (Ok out) bare is =
    record {
      goes_on = λ going. subst (λ (u : Worker). HasBegun r u.phase) (sym is.0.next) tt;
      onward = λ going. subst (IsOnward w.number) (sym is.0.kind) refl;
      ended = λ ended. absurd (let both : true ≡ false = sym ended ∙ is.0.ended in cc);
      last = λ ended. absurd (let both : true ≡ false = sym ended ∙ is.0.ended in cc);
      slot = ap (λ (u : Worker). u.slot) is.0.next;
    }
unbarred_gone r w w' sends bars.StoreFault (Err e) bare is = tt
unbarred_gone r w w' sends bars.NoMemory (Ok out) bare is = absurd is.0
unbarred_gone r w w' sends bars.NoMemory (Err e) bare is = tt
