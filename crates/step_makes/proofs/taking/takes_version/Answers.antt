-- What the proof of `taking::takes_version` needs beside the tactics.
use Rattle.std.proofs.Common.{sym, ap, Some, Bool, ◌∙◌, ◌≡◌, if◌then◌else◌}
use Rattle.node_model.specs.Jobs.{Greets}
use Rattle.p2p_wire.specs.declared.message.Message.TheVariants.{Version}
use Rattle.step_judging.specs.Same.{same_effect}
use Rattle.step_judging.specs.Rules.{effect_of}
use Rattle.job_makes.specs.Turns.{turn_in}
use Rattle.std.specs.Option.{option_copied}
use Rattle.state_jobs.specs.Phases.{part_of}
use Rattle.node_model.specs.SetUp.{SetUp}
use Rattle.node_model.specs.State.{State}
use Rattle.std.proofs.lemmas.Result.{IfOk-weaker}
use Rattle.step_makes.specs.Knowledge.{IsReadBy}
use Rattle.node_model.specs.JobStep.{wrong_message}
use Rattle.node_model.specs.Requests.{asks}
use Rattle.node_model.specs.Turns.{takes}
use Rattle.step_makes.proofs.taking.takes_version.Goals as goal

pub returns-then-is_known_version : goal.returns-then-is_known_version
returns-then-is_known_version c =
    let x = c.args.turn.now in
    IfOk-weaker c.asks_first.result
    (λ b. (s : SetUp) (st : State) → IsReadBy x (option_copied c.args.knowing) s st → b ≡ same_effect (asks (turn_in x s st) c.args.version (Some c.args.frame.now) c.args.peer (part_of x.work.now.part)) (effect_of x.told.now))
    (λ b. (s : SetUp) (st : State) → IsReadBy x (option_copied c.args.knowing) s st → b ≡ same_effect (takes (turn_in x s st) c.args.frame.now c.args.peer (Greets c.args.peer) (Version c.args.version)) (effect_of x.told.now))
    (λ b told s st read. told s st read ∙ ap (λ (v : Bool). same_effect (if v then asks (turn_in x s st) c.args.version (Some c.args.frame.now) c.args.peer (part_of c.args.turn.now.work.now.part) else wrong_message (turn_in x s st) c.args.frame.now c.args.peer) (effect_of x.told.now)) (sym c.if-is_known_version.true ∙ c.is_known_version.ensures))
    c.asks_first.ensures

pub returns-else-is_known_version : goal.returns-else-is_known_version
returns-else-is_known_version c = λ s st read. c.wrong_message.ensures s st ∙ ap (λ (v : Bool). same_effect (if v then asks (turn_in c.args.turn.now s st) c.args.version (Some c.args.frame.now) c.args.peer (part_of c.args.turn.now.work.now.part) else wrong_message (turn_in c.args.turn.now s st) c.args.frame.now c.args.peer) (effect_of c.args.turn.now.told.now)) (sym c.if-is_known_version.false ∙ c.is_known_version.ensures)
