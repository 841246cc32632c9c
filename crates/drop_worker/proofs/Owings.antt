-- To which peers the next step may send more than a Close, of a state.
use Rattle.std.proofs.Common.{◌≡◌, ℕ, Bool, List, Option, Result, Ok, Err, Vec, Global, refl, ap, ◌∙◌}
use Rattle.std.specs.Prelude.{IfOk}
use Rattle.annex_base.specs.declared.kinds.Call.{Call}
use Rattle.annex_base.specs.declared.memory.NoMemory.{NoMemory}
use Rattle.object_store.specs.Stores.{Contents}
use Rattle.node_model.specs.Ends.{End, EndName}
use Rattle.node_model.specs.Jobs.{Work}
use Rattle.node_model.specs.JobStep.{Turn, turn_of}
use Rattle.node_model.specs.Knows.{Reading}
use Rattle.node_model.specs.Look.{Look}
use Rattle.node_model.specs.SetUp.{SetUp}
use Rattle.node_model.specs.State.{State}
use Rattle.node_model.specs.Turns.{needs}
use Rattle.content_lock.specs.Rows.{Rows}
use Rattle.drop_phases.specs.Worker.{Worker}
use Rattle.drop_phases.specs.Working.{Rest, phase_as, present_in, sight, turn_in}
use Rattle.drop_worker.specs.States.{IsSight, HaveState, rest_of}
use Rattle.drop_worker.proofs.StateFacts.{turn_is}

module _ (read : Reading) (ends_at : EndName → End) (time : ℕ) (w : Worker) where
  -- the peers are those that are asked for, at each turn of the worker at this time
  abbrev Needs : List ℕ → Type 0
  Needs peers = (number : ℕ) (rows : Rows) (p : List ℕ → Bool) (fails : Option Call) (rest : Rest) → peers ≡ needs (turn_in (sight read ends_at time number) rows p fails rest w) (phase_as w.phase)

  -- the same of a state
  pub needs_so : (r : Result (Vec ℕ Global) NoMemory) → IfOk r (λ peers. Needs peers.items)
      → IfOk r (λ peers. (number : ℕ) (rows : Rows) (contents : Contents) (s : SetUp) (st : State) (k : Look) (v : Work)
      → IsSight (sight read ends_at time number) s st k w v → HaveState rows contents st → peers.items ≡ needs (turn_of s st k v) v.phase)
  needs_so (Ok peers) is = λ number rows contents s st k v e keeps.
      is number rows (present_in contents) k.fails (rest_of s st k v)
      ∙ ap (λ (t : Turn). needs t t.w.phase) (turn_is (sight read ends_at time number) rows contents s st k w v k.fails e keeps refl)
  needs_so (Err e) is = tt

  -- those of each time
  pub at_time : (r : Result (Vec ℕ Global) NoMemory)
      → IfOk r (λ peers. (time number : ℕ) (rows : Rows) (p : List ℕ → Bool) (fails : Option Call) (rest : Rest) → peers.items ≡ needs (turn_in (sight read ends_at time number) rows p fails rest w) (phase_as w.phase))
      → IfOk r (λ peers. Needs peers.items)
  at_time (Ok peers) is = is time
  at_time (Err e) is = tt
