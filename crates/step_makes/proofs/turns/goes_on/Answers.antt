-- What the proof of `turns::goes_on` needs beside the tactics.
use Rattle.std.proofs.Common.{sym, ap, None, Some, ℕ, Bool, ◌∙◌, ◌≡◌, if◌then◌else◌}
use Rattle.step_makes.proofs.RoomLemmas.{room_everywhere, room_for_all}
use Rattle.state_works.specs.Jobs.{works_of}
use Rattle.step_judging.specs.Same.{same_effect}
use Rattle.step_judging.specs.Rules.{effect_of, is_effect}
use Rattle.job_makes.specs.Turns.{turn_in}
use Rattle.std.specs.Option.{option_copied}
use Rattle.state_jobs.specs.Phases.{phase_of}
use Rattle.node_model.specs.SetUp.{SetUp}
use Rattle.node_model.specs.State.{State}
use Rattle.std.proofs.lemmas.Result.{IfOk-weaker}
use Rattle.step_makes.specs.Knowledge.{IsReadBy, IsTurnOf, HasRoom}
use Rattle.node_model.specs.Turns.{goes, goes_on, needs}
use Rattle.node_model.specs.Slots.{job_of}
use Rattle.step_makes.proofs.turns.goes_on.Goals as goal

pub returns : goal.returns
returns c =
    let x = c.args.turn.now in
    IfOk-weaker c.goes.result
    (λ b. (s : SetUp) (st : State) → IsTurnOf x s st → IsReadBy x (option_copied c.args.knowing) s st → b ≡ same_effect (goes (turn_in x s st) (phase_of x.work.now.phase)) (effect_of x.told.now))
    (λ b. (s : SetUp) (st : State) → IsTurnOf x s st → HasRoom x → IsReadBy x (option_copied c.args.knowing) s st → b ≡ is_effect (goes_on (turn_in x s st)) (effect_of x.told.now))
    (λ b told s st of room read.
    let t = turn_in x s st in
    told s st of read ∙ ap (λ (v : Bool). is_effect (if v then Some (goes t t.w.phase) else None) (effect_of x.told.now)) (sym (room_for_all t (needs t t.w.phase) (λ (p : ℕ). room_everywhere (works_of x.jobs.now) (job_of x.told.now.kind) x.told.now.taken x.told.now.sent x.work.now.slot p room))))
    c.goes.ensures
