-- What the proof of `turns::awaits` needs beside the tactics.
use Rattle.std.proofs.Common.{sym, ap, None, Some, Bool, Option, ◌∙◌, ◌≡◌, if◌then◌else◌}
use Rattle.step_makes.proofs.RoomLemmas.{room_everywhere}
use Rattle.state_works.specs.Jobs.{works_of}
use Rattle.run_data.specs.declared.entry.FrameView.{FrameView}
use Rattle.step_judging.specs.Same.{same_effect}
use Rattle.step_judging.specs.Rules.{effect_of, is_effect}
use Rattle.job_makes.specs.Turns.{turn_in}
use Rattle.std.specs.Option.{option_copied}
use Rattle.node_model.specs.SetUp.{SetUp}
use Rattle.node_model.specs.State.{State}
use Rattle.std.proofs.lemmas.Result.{IfOk-weaker}
use Rattle.step_makes.specs.Knowledge.{IsReadBy, HasRoom}
use Rattle.node_model.specs.Turns.{takes_frame, awaits}
use Rattle.node_model.specs.Slots.{job_of}
use Rattle.step_makes.proofs.turns.awaits.Goals as goal

pub returns-in-Some : goal.returns-in-Some
returns-in-Some c =
    let x = c.args.turn.now in
    IfOk-weaker c.takes_frame.result
    (λ b. (s : SetUp) (st : State) → IsReadBy x (option_copied c.args.knowing) s st → b ≡ same_effect (takes_frame (turn_in x s st) c.args.peer c.in-Some.frame.now c.in-Some.frame.now.body) (effect_of x.told.now))
    (λ b. (s : SetUp) (st : State) → HasRoom x → IsReadBy x (option_copied c.args.knowing) s st → b ≡ is_effect (awaits (turn_in x s st) c.args.peer (option_copied c.args.waiting)) (effect_of x.told.now))
    (λ b told s st room read.
    let t = turn_in x s st in
    let f = c.in-Some.frame.now in
    let here = room_everywhere (works_of x.jobs.now) (job_of x.told.now.kind) x.told.now.taken x.told.now.sent x.work.now.slot c.args.peer room in
    told s st read
    ∙ ap (λ (v : Bool). is_effect (if v then Some (takes_frame t c.args.peer f f.body) else None) (effect_of x.told.now)) (sym here)
    ∙ ap (λ (o : Option FrameView). is_effect (awaits t c.args.peer o) (effect_of x.told.now)) (sym (ap option_copied c.in-Some.is)))
    c.takes_frame.ensures

pub returns-in-None : goal.returns-in-None
returns-in-None c = λ s st room read.
    ap (λ (o : Option FrameView). is_effect (awaits (turn_in c.args.turn.now s st) c.args.peer o) (effect_of c.args.turn.now.told.now)) (sym (ap option_copied c.in-None.is))
