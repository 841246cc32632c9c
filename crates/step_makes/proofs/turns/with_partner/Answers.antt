-- What the proof of `turns::with_partner` needs beside the tactics.
use Rattle.std.proofs.Common.{sym, ap, true, Bool, ◌∙◌, ◌≡◌}
use Rattle.step_judging.specs.Rules.{effect_of, is_effect}
use Rattle.job_makes.specs.Turns.{turn_in}
use Rattle.std.specs.Option.{option_copied}
use Rattle.node_model.specs.SetUp.{SetUp}
use Rattle.node_model.specs.State.{State}
use Rattle.std.proofs.lemmas.Result.{IfOk-weaker}
use Rattle.step_makes.specs.Knowledge.{IsReadBy, IsTurnOf, HasRoom}
use Rattle.node_model.specs.JobStep.{talk, end_with}
use Rattle.node_model.specs.Turns.{with_partner}
use Rattle.step_makes.proofs.turns.with_partner.Goals as goal

pub returns-then-is_open : goal.returns-then-is_open
returns-then-is_open c =
    let x = c.args.turn.now in
    IfOk-weaker c.on_open.result
    (λ b. (s : SetUp) (st : State) → IsTurnOf x s st → HasRoom x → IsReadBy x (option_copied c.args.knowing) s st → b ≡ is_effect (with_partner (turn_in x s st) c.args.peer true) (effect_of x.told.now))
    (λ b. (s : SetUp) (st : State) → IsTurnOf x s st → HasRoom x → IsReadBy x (option_copied c.args.knowing) s st → b ≡ is_effect (with_partner (turn_in x s st) c.args.peer (end_with (turn_in x s st) c.args.peer).opened) (effect_of x.told.now))
    (λ b told s st of room read. told s st of room read ∙ ap (λ (v : Bool). is_effect (with_partner (turn_in x s st) c.args.peer v) (effect_of x.told.now)) (sym c.if-is_open.true ∙ c.is_open.ensures s st))
    c.on_open.ensures

pub returns-else-is_open : goal.returns-else-is_open
returns-else-is_open c = λ s st of room read. c.quietly.ensures (talk (turn_in c.args.turn.now s st)) (c.talks.ensures s st) ∙ ap (λ (v : Bool). is_effect (with_partner (turn_in c.args.turn.now s st) c.args.peer v) (effect_of c.args.turn.now.told.now)) (sym c.if-is_open.false ∙ c.is_open.ensures s st)
