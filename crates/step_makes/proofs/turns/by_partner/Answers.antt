-- What the proof of `turns::by_partner` needs beside the tactics.
use Rattle.std.proofs.Common.{sym, ap, ℕ, Option, ◌∙◌, ◌≡◌}
use Rattle.step_judging.specs.Rules.{effect_of, is_effect}
use Rattle.job_makes.specs.Turns.{turn_in}
use Rattle.std.specs.Option.{option_copied}
use Rattle.state_jobs.specs.Phases.{phase_of}
use Rattle.node_model.specs.SetUp.{SetUp}
use Rattle.node_model.specs.State.{State}
use Rattle.std.proofs.lemmas.Result.{IfOk-weaker}
use Rattle.step_makes.specs.Knowledge.{IsReadBy, IsTurnOf, HasRoom}
use Rattle.node_model.specs.JobStep.{end_with}
use Rattle.node_model.specs.Jobs.{partner}
use Rattle.node_model.specs.Turns.{by_partner, goes_on, with_partner}
use Rattle.step_makes.proofs.turns.by_partner.Goals as goal

pub returns-in-Some : goal.returns-in-Some
returns-in-Some c =
    let x = c.args.turn.now in
    IfOk-weaker c.with_partner.result
    (λ b. (s : SetUp) (st : State) → IsTurnOf x s st → HasRoom x → IsReadBy x (option_copied c.args.knowing) s st → b ≡ is_effect (with_partner (turn_in x s st) c.in-Some.peer (end_with (turn_in x s st) c.in-Some.peer).opened) (effect_of x.told.now))
    (λ b. (s : SetUp) (st : State) → IsTurnOf x s st → HasRoom x → IsReadBy x (option_copied c.args.knowing) s st → b ≡ is_effect (by_partner (turn_in x s st) (partner x.work.now.what.peer (phase_of x.work.now.phase))) (effect_of x.told.now))
    (λ b told s st of room read. told s st of room read ∙ ap (λ (o : Option ℕ). is_effect (by_partner (turn_in x s st) o) (effect_of x.told.now)) (sym c.in-Some.is ∙ c.partner.ensures))
    c.with_partner.ensures

pub returns-in-None : goal.returns-in-None
returns-in-None c =
    let x = c.args.turn.now in
    IfOk-weaker c.goes_on.result
    (λ b. (s : SetUp) (st : State) → IsTurnOf x s st → HasRoom x → IsReadBy x (option_copied c.args.knowing) s st → b ≡ is_effect (goes_on (turn_in x s st)) (effect_of x.told.now))
    (λ b. (s : SetUp) (st : State) → IsTurnOf x s st → HasRoom x → IsReadBy x (option_copied c.args.knowing) s st → b ≡ is_effect (by_partner (turn_in x s st) (partner x.work.now.what.peer (phase_of x.work.now.phase))) (effect_of x.told.now))
    (λ b told s st of room read. told s st of room read ∙ ap (λ (o : Option ℕ). is_effect (by_partner (turn_in x s st) o) (effect_of x.told.now)) (sym c.in-None.is ∙ c.partner.ensures))
    c.goes_on.ensures
