-- Whether a content is there or being filled, in a node and in the driver.
use Rattle.std.proofs.Common.{◌≡◌, ℕ, Bool, List, Option, Some, sym, ap, ◌∙◌}
use Rattle.std.specs.Prelude.{◌||◌, is_some}
use Rattle.object_store.specs.Stores.{Contents}
use Rattle.content_lock.specs.Rows.{is_filling}
use Rattle.node_model.specs.After.{AgreesAtDrops}
use Rattle.node_model.specs.SessionStep.{is_filled}
use Rattle.node_model.specs.SetUp.{SetUp}
use Rattle.node_model.specs.State.{State}
use Rattle.driver_model.specs.Driver.{Driver, DriverInput, set_up_of, state_at}
use Rattle.driver_model.specs.ScriptSteps.{is_busy}
use Rattle.joined_nodes.specs.Nodes as nodes
use Rattle.joined_nodes.specs.Nodes.{NodeView}
use Rattle.joined_nodes.specs.Placing.{IsTaken}

filled_alike : (s : SetUp) (st st' : State) (key : List ℕ) → AgreesAtDrops st st' → is_filled s st key ≡ is_filled s st' key
filled_alike s st st' key agrees = ap (λ (x : State). is_filled s x key) agrees.same

pub taken_is_busy : {K : Type 0} (g : DriverInput) (d : Driver) (r : ℕ) (n : NodeView K) (c : Contents) (known : Option Contents) (key : List ℕ) (taken : Bool)
    → AgreesAtDrops (state_at g d r) (nodes.state_of (set_up_of g d r) n.history) → nodes.IsStateOfParts (set_up_of g d r) n.parts n.owed c (nodes.state_of (set_up_of g d r) n.history)
    → known ≡ Some c → IsTaken taken known n.parts.table key → taken ≡ is_busy g d r key
taken_is_busy g d r n c known key taken agrees stands is told =
    told c is ∙ (ap (λ (b : Bool). b || is_filling n.parts.table key) here ∙ ap (λ (b : Bool). (state_at g d r).present key || b) filled)
  where
    here : is_some (c key) ≡ (state_at g d r).present key
    here = stands.stored.present key ∙ sym (ap (λ (x : State). x.present key) agrees.same)

    filled : is_filling n.parts.table key ≡ is_filled (set_up_of g d r) (state_at g d r) key
    filled = stands.fills key ∙ sym (filled_alike (set_up_of g d r) (state_at g d r) (nodes.state_of (set_up_of g d r) n.history) key agrees)
