-- To which peers the next step may send more than a Close.
use Rattle.std.proofs.Common.{◌≡◌, ℕ, Bool, List, [], ◌∷◌, filter, Option, Result, Ok, Err, Vec, Global, sym, ap, ◌∙◌}
use Rattle.std.specs.Prelude.{IfOk}
use Rattle.annex_base.specs.declared.kinds.Call.{Call}
use Rattle.annex_base.specs.declared.memory.NoMemory.{NoMemory}
use Rattle.node_model.specs.Ends.{End, EndName}
use Rattle.node_model.specs.Jobs.{Drops}
use Rattle.node_model.specs.JobStep.{Turn, locked_peers}
use Rattle.node_model.specs.Knows.{Reading}
use Rattle.node_model.specs.Turns.{needs, next_needs}
use Rattle.content_lock.specs.Rows.{Rows}
use Rattle.drop_judging.specs.declared.judging.Verdict.{Verdict}
use Rattle.drop_judging.specs.declared.judging.Verdict.TheVariants as verdicts
use Rattle.drop_phases.specs.declared.phase.Phase.{Phase}
use Rattle.drop_phases.specs.declared.phase.Phase.TheVariants as phases
use Rattle.drop_phases.specs.Worker.{Worker}
use Rattle.drop_phases.specs.Working.{Rest, phase_as, sight, turn_in}
use Rattle.drop_judging.specs.Judging.{is_owing, needs_by, others_in}

module _ (read : Reading) (ends_at : EndName → End) (time : ℕ) (w : Worker) where
  -- the peers are those that are asked for, at each turn of the worker
  abbrev Needs : (Turn → List ℕ) → List ℕ → Type 0
  Needs asked peers = (number : ℕ) (rows : Rows) (p : List ℕ → Bool) (fails : Option Call) (rest : Rest) → peers ≡ asked (turn_in (sight read ends_at time number) rows p fails rest w)

  -- what a judgement says of them
  abbrev Judges : Verdict → Type 0
  Judges v = (number : ℕ) (rows : Rows) (p : List ℕ → Bool) (fails : Option Call) (rest : Rest)
      → needs_by v (turn_in (sight read ends_at time number) rows p fails rest w) ≡ next_needs (turn_in (sight read ends_at time number) rows p fails rest w) Drops

  locked_by : (v : Verdict) → ((t : Turn) → locked_peers t ≡ needs_by v t) → Judges v → (r : Result (Vec ℕ Global) NoMemory)
      → IfOk r (λ peers. peers.items ≡ filter (is_owing ends_at w) (others_in read)) → IfOk r (λ peers. Needs (λ t. next_needs t Drops) peers.items)
  locked_by v locks judges (Ok peers) is = λ number rows p fails rest. is ∙ (locks (turn_in (sight read ends_at time number) rows p fails rest w) ∙ judges number rows p fails rest)
  locked_by v locks judges (Err e) is = tt

  pub locked_late : (v : Verdict) (end clock : ℕ) → v ≡ verdicts.Late end clock → Judges v → (r : Result (Vec ℕ Global) NoMemory)
      → IfOk r (λ peers. peers.items ≡ filter (is_owing ends_at w) (others_in read)) → IfOk r (λ peers. Needs (λ t. next_needs t Drops) peers.items)
  locked_late v end clock is = locked_by v (λ t. ap (λ (u : Verdict). needs_by u t) (sym is))

  pub locked_lacks : (v : Verdict) → v ≡ verdicts.Lacks → Judges v → (r : Result (Vec ℕ Global) NoMemory)
      → IfOk r (λ peers. peers.items ≡ filter (is_owing ends_at w) (others_in read)) → IfOk r (λ peers. Needs (λ t. next_needs t Drops) peers.items)
  locked_lacks v is = locked_by v (λ t. ap (λ (u : Verdict). needs_by u t) (sym is))

  pub asked_one : (v : Verdict) (peer : ℕ) → v ≡ verdicts.Asks peer → Judges v → (r : Result (Vec ℕ Global) NoMemory)
      → IfOk r (λ peers. peers.items ≡ peer ∷ []) → IfOk r (λ peers. Needs (λ t. next_needs t Drops) peers.items)
  asked_one v peer is judges (Ok peers) one = λ number rows p fails rest.
      one ∙ (ap (λ (u : Verdict). needs_by u (turn_in (sight read ends_at time number) rows p fails rest w)) (sym is) ∙ judges number rows p fails rest)
  asked_one v peer is judges (Err e) one = tt

  -- the same where the job stands
  pub needs_next : w.phase ≡ phases.Next → (r : Result (Vec ℕ Global) NoMemory) → IfOk r (λ peers. Needs (λ t. next_needs t Drops) peers.items)
      → IfOk r (λ peers. Needs (λ t. needs t (phase_as w.phase)) peers.items)
  needs_next at (Ok peers) is = λ number rows p fails rest.
      is number rows p fails rest ∙ ap (λ (ph : Phase). needs (turn_in (sight read ends_at time number) rows p fails rest w) (phase_as ph)) (sym at)
  needs_next at (Err e) is = tt
