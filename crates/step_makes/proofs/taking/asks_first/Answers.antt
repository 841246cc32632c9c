-- What the proof of `taking::asks_first` needs beside the tactics.
use Rattle.std.proofs.Common.{Some, ℕ, ◌≡◌}
use Rattle.step_judging.specs.Same.{same_effect}
use Rattle.step_judging.specs.Rules.{effect_of}
use Rattle.job_makes.specs.Turns.{turn_in}
use Rattle.std.specs.Option.{option_copied}
use Rattle.state_jobs.specs.Phases.{part_of}
use Rattle.node_model.specs.SetUp.{SetUp}
use Rattle.node_model.specs.State.{State}
use Rattle.std.proofs.lemmas.Result.{IfOk-weaker}
use Rattle.step_makes.specs.Knowledge.{IsReadBy}
use Rattle.node_model.specs.Requests.{asks}
use Rattle.step_makes.proofs.taking.asks_first.Goals as goal

pub returns-in_default : goal.returns-in_default
returns-in_default c =
    let x = c.args.turn.now in
    IfOk-weaker c.asks.result
    (λ b. (s : SetUp) (st : State) → (version : ℕ) → b ≡ same_effect (asks (turn_in x s st) version (Some c.args.frame.now) c.args.peer (part_of x.work.now.part)) (effect_of x.told.now))
    (λ b. (s : SetUp) (st : State) → IsReadBy x (option_copied c.args.knowing) s st → b ≡ same_effect (asks (turn_in x s st) c.args.version (Some c.args.frame.now) c.args.peer (part_of x.work.now.part)) (effect_of x.told.now))
    (λ b told s st read. told s st c.args.version)
    c.asks.ensures
