-- What the proof of `slots::step_by_logs` needs beside the tactics.
use Rattle.std.proofs.Common.{sym, ap, Some, ◌∙◌, ◌≡◌}
use Rattle.state_reads.specs.Known.{AreLogsRead, KnownLogs}
use Rattle.step_judging.specs.Rules.{effect_of, is_effect}
use Rattle.job_makes.specs.Turns.{turn_in, set_up_in}
use Rattle.drop_makes.specs.Knowings.{drop_in}
use Rattle.state_jobs.specs.Phases.{phase_of}
use Rattle.state_jobs.specs.Works.{work_of}
use Rattle.node_model.specs.SetUp.{SetUp}
use Rattle.node_model.specs.State.{State}
use Rattle.std.proofs.lemmas.Result.{IfOk-weaker}
use Rattle.step_makes.specs.Knowledge.{IsReadBy, IsTurnOf, HasRoom}
use Rattle.node_model.specs.Jobs.{partner}
use Rattle.node_model.specs.Turns.{by_partner}
use Rattle.step_makes.proofs.slots.step_by_logs.Goals as goal

pub by_partner-requires : goal.by_partner-requires
by_partner-requires c = c.in_ok-known.ensures.turn

pub returns : goal.returns
returns c =
    let x = c.args.turn.now in
    let k = c.in_ok-known.known in
    IfOk-weaker c.by_partner.result
    (λ b. (s : SetUp) (st : State) → IsTurnOf x s st → HasRoom x → IsReadBy x (Some k) s st → b ≡ is_effect (by_partner (turn_in x s st) (partner x.work.now.what.peer (phase_of x.work.now.phase))) (effect_of x.told.now))
    (λ b. (s : SetUp) (st : State) → IsTurnOf x s st → HasRoom x → AreLogsRead (st.read x.work.now.number) (set_up_in x s) (work_of x.work.now) c.args.logs.now → b ≡ is_effect (by_partner (turn_in x s st) (partner x.work.now.what.peer (phase_of x.work.now.phase))) (effect_of x.told.now))
    (λ b told s st of room read.
    told s st of room (c.readings_are_kept.ensures x c.args.logs.now s st read ∙ ap (λ (l : KnownLogs). drop_in x l s st) (sym c.in_ok-known.ensures.logs)))
    c.by_partner.ensures
