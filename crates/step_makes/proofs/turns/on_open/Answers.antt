-- What the proof of `turns::on_open` needs beside the tactics.
use Rattle.std.proofs.Common.{sym, ap, true, Bool, Option, ◌∙◌, ◌≡◌, if◌then◌else◌}
use Rattle.run_data.specs.declared.entry.FrameView.{FrameView}
use Rattle.step_judging.specs.Rules.{effect_of, is_effect}
use Rattle.job_makes.specs.Turns.{turn_in}
use Rattle.std.specs.Option.{option_copied}
use Rattle.node_model.specs.SetUp.{SetUp}
use Rattle.node_model.specs.State.{State}
use Rattle.std.proofs.lemmas.Result.{IfOk-weaker}
use Rattle.step_makes.specs.Knowledge.{IsReadBy, IsTurnOf, HasRoom}
use Rattle.node_model.specs.JobStep.{end_with}
use Rattle.node_model.specs.Jobs.{job_end}
use Rattle.node_model.specs.Turns.{awaits, goes_on, with_partner}
use Rattle.node_model.specs.Look.{waiting_frame}
use Rattle.step_makes.proofs.turns.on_open.Goals as goal

pub returns-then-is_awaiting : goal.returns-then-is_awaiting
returns-then-is_awaiting c =
    let x = c.args.turn.now in
    IfOk-weaker c.awaits.result
    (λ b. (s : SetUp) (st : State) → HasRoom x → IsReadBy x (option_copied c.args.knowing) s st → b ≡ is_effect (awaits (turn_in x s st) c.args.peer (option_copied c.waiting_frame-waiting.result)) (effect_of x.told.now))
    (λ b. (s : SetUp) (st : State) → IsTurnOf x s st → HasRoom x → IsReadBy x (option_copied c.args.knowing) s st → b ≡ is_effect (with_partner (turn_in x s st) c.args.peer true) (effect_of x.told.now))
    (λ b told s st of room read.
    told s st room read
    ∙ ap (λ (o : Option FrameView). is_effect (awaits (turn_in x s st) c.args.peer o) (effect_of x.told.now)) (c.waiting_frame-waiting.ensures s st)
    ∙ ap (λ (v : Bool). is_effect (if v then awaits (turn_in x s st) c.args.peer (waiting_frame (end_with (turn_in x s st) c.args.peer) (turn_in x s st).look (job_end (turn_in x s st).w c.args.peer)) else goes_on (turn_in x s st)) (effect_of x.told.now)) (sym c.if-is_awaiting.true ∙ c.is_awaiting.ensures))
    c.awaits.ensures

pub returns-else-is_awaiting : goal.returns-else-is_awaiting
returns-else-is_awaiting c =
    let x = c.args.turn.now in
    IfOk-weaker c.goes_on.result
    (λ b. (s : SetUp) (st : State) → IsTurnOf x s st → HasRoom x → IsReadBy x (option_copied c.args.knowing) s st → b ≡ is_effect (goes_on (turn_in x s st)) (effect_of x.told.now))
    (λ b. (s : SetUp) (st : State) → IsTurnOf x s st → HasRoom x → IsReadBy x (option_copied c.args.knowing) s st → b ≡ is_effect (with_partner (turn_in x s st) c.args.peer true) (effect_of x.told.now))
    (λ b told s st of room read. told s st of room read ∙ ap (λ (v : Bool). is_effect (if v then awaits (turn_in x s st) c.args.peer (waiting_frame (end_with (turn_in x s st) c.args.peer) (turn_in x s st).look (job_end (turn_in x s st).w c.args.peer)) else goes_on (turn_in x s st)) (effect_of x.told.now)) (sym c.if-is_awaiting.false ∙ c.is_awaiting.ensures))
    c.goes_on.ensures
