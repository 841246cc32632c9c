-- The calls of a local drop's steps.
use Rattle.std.proofs.Common.{◌≡◌, ℕ, Bool, true, false, List, [], ◌∷◌, Option, Some, None, Result, Ok, Err, refl, sym, ap, ◌∙◌, subst}
use Rattle.std.specs.Prelude.{IfOk}
use Rattle.annex_base.specs.declared.kinds.Call.{Call}
use Rattle.annex_base.specs.declared.kinds.Call.TheVariants as calls
use Rattle.annex_base.specs.declared.memory.NoMemory.{NoMemory}
use Rattle.drop_proof.specs.declared.rule.Side.{Side}
use Rattle.drop_proof.specs.declared.rule.Side.TheVariants.{Local}
use Rattle.run_data.specs.declared.job.DropRefusal.{DropRefusal}
use Rattle.run_data.specs.declared.job.Outcome.TheVariants.{Refused}
use Rattle.object_store.specs.Calls.{FailsAsTold}
use Rattle.object_store.specs.Stores.{Contents}
use Rattle.node_model.specs.DropStep.{bars, first_drop, held_until, required_there, row_refusal}
use Rattle.node_model.specs.Ends.{End, EndName}
use Rattle.node_model.specs.Jobs.{Drops, drop_side}
use Rattle.node_model.specs.JobStep.{Turn, bar_there, is_there, owns_share}
use Rattle.node_model.specs.Knows.{Reading}
use Rattle.node_model.specs.Look.{Effect, failed_in}
use Rattle.node_model.specs.Turns.{goes, next_step, outcome_of}
use Rattle.content_lock.specs.Rows.{Rows}
use Rattle.content_lock.specs.Turns.{bar_failed}
use Rattle.content_lock.specs.declared.refusals.BarRefused.{BarRefused}
use Rattle.content_lock.specs.declared.refusals.BarRefused.TheVariants as barred
use Rattle.drop_judging.specs.declared.judging.Verdict.{Verdict}
use Rattle.drop_phases.specs.declared.phase.Ending.{Ending}
use Rattle.drop_phases.specs.declared.phase.Ending.TheVariants as endings
use Rattle.drop_phases.specs.declared.phase.Phase.{Phase}
use Rattle.drop_phases.specs.declared.phase.Phase.TheVariants as phases
use Rattle.drop_phases.specs.declared.phase.Token.{Token}
use Rattle.drop_phases.specs.declared.turn.Output.{Output}
use Rattle.drop_phases.specs.Begun.{HasEnded, IsToEnd}
use Rattle.drop_phases.specs.Calling.{Failing, MakesOver, MakesPhase, has_open}
use Rattle.drop_judging.specs.Judging.{step_by}
use Rattle.drop_phases.specs.Feeding.{FitsEnding, FitsLocal, IsOfLocal}
use Rattle.drop_phases.specs.Leaving.{FollowsBarRefused}
use Rattle.drop_phases.specs.Sends.{SendsView}
use Rattle.drop_phases.specs.Worker.{Worker}
use Rattle.drop_phases.specs.Working.{Rest, Sight, phase_as, present_in, sight, turn_in}
use Rattle.drop_phases.proofs.Callings.{ended_well, ends_none, makes_failed, makes_last, over_as, over_is, over_none, unfailed}
use Rattle.drop_phases.proofs.Doings.{bar_local, bare_local}

-- ---- what a token leaves to release

fits_ending : (why : Ending) (token : Token) → FitsEnding why token → IsOfLocal token
fits_ending endings.StoreFault token fits = fits
fits_ending why token fits = absurd fits

pub fits_shareless : (ph : Phase) (token : Token) → FitsLocal ph token → IsOfLocal token
fits_shareless phases.Fresh token fits = bare_local token fits
fits_shareless phases.Next token fits = bar_local token fits
fits_shareless (phases.Opens peer) token fits = bar_local token fits
fits_shareless (phases.Greets peer) token fits = bar_local token fits
fits_shareless (phases.AsksLock peer since) token fits = bar_local token fits
fits_shareless (phases.AsksLook peer) token fits = bar_local token fits
fits_shareless phases.AsksTime token fits = absurd fits
fits_shareless phases.Orders token fits = absurd fits
fits_shareless phases.Removed token fits = bare_local token fits
fits_shareless phases.Denied token fits = absurd fits
fits_shareless (phases.Late time) token fits = absurd fits
fits_shareless (phases.Ends why) token fits = fits_ending why token fits

-- ---- an end

pub phase_end : (t : Turn) (ph : Phase) → IsToEnd ph → owns_share t ≡ false → (goes t (phase_as ph)).calls ≡ []
phase_end t phases.Removed to closed = ends_none t None (outcome_of t (phase_as phases.Removed)) closed
phase_end t phases.Denied to closed = ends_none t None (outcome_of t (phase_as phases.Denied)) closed
phase_end t (phases.Late time) to closed = ends_none t None (outcome_of t (phase_as (phases.Late time))) closed
phase_end t (phases.Ends why) to closed = ends_none t None (outcome_of t (phase_as (phases.Ends why))) closed
phase_end t ph to closed = absurd to

-- a job that is to end, and has no share
pub ends_makes : (x : Sight) (known : Option Contents) (rows : Rows) (w w' : Worker) (before : Failing) (r : Result Output NoMemory) → IsToEnd w.phase → has_open rows w ≡ false → IfOk r (HasEnded w w')
    → MakesPhase x known rows w before before r
ends_makes x known rows w w' before r to closed ended =
    over_none x known rows w (λ t. goes t t.w.phase) before r (ended_well w w' r ended) (λ p fails rest. phase_end (turn_in x rows p fails rest w) w.phase to closed)

-- ---- the beginning

-- no refusal releases anything
bar_none : (t : Turn) (why : Option DropRefusal) → owns_share t ≡ false → (bars t why).calls ≡ []
bar_none t None closed = refl
bar_none t (Some why) closed = ends_none t None (Refused why) closed

module _ (x : Sight) (known : Option Contents) (rows : Rows) (w : Worker) (before after : Failing) (local : drop_side w.job.kind w.job.peer ≡ Local) (fresh : w.phase ≡ phases.Fresh) (closed : has_open rows w ≡ false) where
  begin_calls : (p : List ℕ → Bool) (fails : Option Call) (rest : Rest) → (goes (turn_in x rows p fails rest w) (phase_as w.phase)).calls ≡ calls.Has ∷ []
  begin_calls p fails rest =
      let t = turn_in x rows p fails rest w in
      ap (λ (ph : Phase). (goes t (phase_as ph)).calls) fresh ∙ (ap (λ (side : Side). (first_drop t side).calls) local
      ∙ ap (λ (l : List Call). calls.Has ∷ l) (bar_none t (row_refusal (is_there t) (required_there t) (bar_there t) (held_until t)) closed))

  pub begin_makes : (out : Output) → failed_in out.kind ≡ None → FailsAsTold calls.Has before after false → MakesPhase x known rows w before after (Ok out)
  begin_makes out well it =
      over_is x known rows w (λ t. goes t t.w.phase) (calls.Has ∷ []) None before after out (λ c told rest. begin_calls (present_in c) (failed_in out.kind) rest) well (makes_last calls.Has before after it)

  pub begin_fails : (out : Output) → failed_in out.kind ≡ Some calls.Has → FailsAsTold calls.Has before after true → MakesPhase x known rows w before after (Ok out)
  begin_fails out well it =
      over_is x known rows w (λ t. goes t t.w.phase) (calls.Has ∷ []) (Some calls.Has) before after out (λ c told rest. begin_calls (present_in c) (failed_in out.kind) rest) well (makes_failed calls.Has [] before after it)

  refusal_makes : (out : Output) (r : Result Output NoMemory) → r ≡ Ok out → failed_in out.kind ≡ None → FailsAsTold calls.Has before after false → MakesPhase x known rows w before after r
  refusal_makes out r is well it = subst (λ (o : Result Output NoMemory). MakesPhase x known rows w before after o) (sym is) (begin_makes out well it)

  pub unbarred_makes : (w' : Worker) (sends : SendsView) (why : BarRefused) (r : Result Output NoMemory) → FailsAsTold calls.Has before after (bar_failed {T = Unit {0}} (Err why)) → FollowsBarRefused why w w' sends r
      → MakesPhase x known rows w before after r
  unbarred_makes w' sends barred.Absent r it is = refusal_makes _ r is.1 refl it
  unbarred_makes w' sends (barred.Barred job) r it is = refusal_makes _ r is.1 refl it
  unbarred_makes w' sends (barred.Held hold until) r it is = refusal_makes _ r is.1 refl it
  unbarred_makes w' sends barred.StoreFault (Ok out) it is = begin_fails out (ap failed_in is.0.kind) it
  unbarred_makes w' sends barred.StoreFault (Err e) it is = absurd is.1
  unbarred_makes w' sends barred.NoMemory (Ok out) it is = absurd is.0
  unbarred_makes w' sends barred.NoMemory (Err e) it is = unfailed calls.Has before after it

-- ---- the judgement

pub judged_makes : (read : Reading) (ends_at : EndName → End) (time number : ℕ) (known : Option Contents) (rows : Rows) (w : Worker) (before after : Failing) (v v' : Verdict) (r : Result Output NoMemory) → w.phase ≡ phases.Next → v ≡ v'
    → ((number : ℕ) (rs : Rows) (p : List ℕ → Bool) (fails : Option Call) (rest : Rest) → step_by v (turn_in (sight read ends_at time number) rs p fails rest w) ≡ next_step (turn_in (sight read ends_at time number) rs p fails rest w) Drops)
    → MakesOver (sight read ends_at time number) known rows w (step_by v') before after r → MakesPhase (sight read ends_at time number) known rows w before after r
judged_makes read ends_at time number known rows w before after v v' r at is same m =
    over_as (sight read ends_at time number) known rows w (λ t. goes t t.w.phase) (step_by v') before after r
    (λ p fails rest. let t = turn_in (sight read ends_at time number) rows p fails rest w in
    ap (λ (ph : Phase). (goes t (phase_as ph)).calls) at ∙ ap (λ (m : Effect). m.calls) (sym (same number rows p fails rest) ∙ ap (λ (u : Verdict). step_by u t) is)) m
