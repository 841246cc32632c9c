-- What the proof of `requests::asks` needs beside the tactics.
use Rattle.std.proofs.Common.{◌≡◌, ℕ, IfOk, sym, subst}
use Rattle.node_model.specs.SetUp.{SetUp}
use Rattle.node_model.specs.State.{State}
use Rattle.node_model.specs.Requests.{asks}
use Rattle.state_jobs.specs.declared.phase.Part.{Part}
use Rattle.step_judging.specs.Same.{same_effect}
use Rattle.step_judging.specs.Rules.{effect_of}
use Rattle.job_makes.specs.Turns.{turn_in}
use Rattle.std.specs.Option.{option_copied}
use Rattle.state_jobs.specs.Phases.{part_of}
use Rattle.transfer_makes.proofs.requests.asks.Goals as goal

pub returns-in-Gets : goal.returns-in-Gets
returns-in-Gets c =
    subst (λ (p : Part). IfOk c.asks_get.result (λ b. (s : SetUp) (st : State) (version : ℕ) → b ≡ same_effect (asks (turn_in c.args.turn.now s st) version (option_copied c.args.taken) c.args.peer (part_of p)) (effect_of c.args.turn.now.told.now)))
    (sym c.in-Gets.is) c.asks_get.ensures

pub returns-in-Puts : goal.returns-in-Puts
returns-in-Puts c =
    subst (λ (p : Part). IfOk c.asks_put.result (λ b. (s : SetUp) (st : State) (version : ℕ) → b ≡ same_effect (asks (turn_in c.args.turn.now s st) version (option_copied c.args.taken) c.args.peer (part_of p)) (effect_of c.args.turn.now.told.now)))
    (sym c.in-Puts.is) c.asks_put.ensures
