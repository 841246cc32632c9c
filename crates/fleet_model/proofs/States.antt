-- The state that a node's history leaves is the driver's, in all that a step reads.
use Rattle.std.proofs.Common.{◌≡◌, ℕ, List, sym, ap, ◌∙◌, subst}
use Rattle.std.specs.Prelude.{filter, reverse}
use Rattle.std.proofs.lemmas.List.{reverse-reverse}
use Rattle.run_data.specs.declared.entry.Entry.{Entry}
use Rattle.run_data.specs.declared.run.Run.{Run}
use Rattle.node_model.specs.After.{AgreesAtDrops, states}
use Rattle.node_model.specs.Look.{Look}
use Rattle.node_model.specs.SetUp.{SetUp}
use Rattle.node_model.specs.Step.{step}
use Rattle.run_model.specs.Past.{is_of}
use Rattle.run_model.specs.Run.{IsRun, paths_at, set_up}
use Rattle.run_model.specs.States as runs
use Rattle.driver_model.specs.Driver.{Driver, DriverInput, set_up_of, state_at}
use Rattle.driver_model.specs.Driving.{run_with}
use Rattle.driver_model.specs.Sound.{IsSound}
use Rattle.joined_nodes.specs.Nodes as nodes
use Rattle.joined_nodes.specs.Nodes.{NodeView}

-- the laws of carried states
pub record Carried : Type 0 where
  pub states_agree : (run : Run) (r : ℕ) → IsRun run → AgreesAtDrops (runs.state_of (set_up run r) (reverse run.entries)) (states (set_up run r) (filter (is_of r) (reverse run.entries)))
  pub steps_agree : (run : Run) (r : ℕ) (k : Look) → IsRun run → step (set_up run r) (runs.state_of (set_up run r) (reverse run.entries)) k ≡ step (set_up run r) (states (set_up run r) (filter (is_of r) (reverse run.entries))) k

-- set up with the paths that these entries leave
set_up_with : DriverInput → Driver → ℕ → List Entry → SetUp
set_up_with g d r past = record { number = r; repos = g.repos; paths = paths_at d.tree past r }

-- the node's history is what r did
abbrev pub HasHistoryOf : {K : Type 0} → Driver → ℕ → NodeView K → Type 0
HasHistoryOf d r n = n.history ≡ reverse (filter (is_of r) d.past)

own_past : {K : Type 0} (d : Driver) (r : ℕ) (n : NodeView K) → HasHistoryOf d r n → filter (is_of r) d.past ≡ reverse n.history
own_past d r n is = sym (reverse-reverse (filter (is_of r) d.past)) ∙ ap reverse (sym is)

pub state_is : {K : Type 0} → Carried → (g : DriverInput) (d : Driver) (r : ℕ) (n : NodeView K) → IsSound g d → HasHistoryOf d r n
    → AgreesAtDrops (state_at g d r) (nodes.state_of (set_up_of g d r) n.history)
unfolding set_up_with
state_is laws g d r n sound is =
    subst (λ (xs : List Entry). AgreesAtDrops (state_at g d r) (states (set_up_of g d r) xs)) (own_past d r n is)
    (subst (λ (p : List Entry). AgreesAtDrops (runs.state_of (set_up_with g d r p) p) (states (set_up_with g d r p) (filter (is_of r) p))) (reverse-reverse d.past)
    (laws.states_agree (run_with g d) r sound.run))

pub step_is : {K : Type 0} → Carried → (g : DriverInput) (d : Driver) (r : ℕ) (n : NodeView K) (k : Look) → IsSound g d → HasHistoryOf d r n
    → step (set_up_of g d r) (state_at g d r) k ≡ step (set_up_of g d r) (nodes.state_of (set_up_of g d r) n.history) k
unfolding set_up_with
step_is laws g d r n k sound is =
    subst (λ (xs : List Entry). step (set_up_of g d r) (state_at g d r) k ≡ step (set_up_of g d r) (states (set_up_of g d r) xs) k) (own_past d r n is)
    (subst (λ (p : List Entry). step (set_up_with g d r p) (runs.state_of (set_up_with g d r p) p) k ≡ step (set_up_with g d r p) (states (set_up_with g d r p) (filter (is_of r) p)) k) (reverse-reverse d.past)
    (laws.steps_agree (run_with g d) r k sound.run))
