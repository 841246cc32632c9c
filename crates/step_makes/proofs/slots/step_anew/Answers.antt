-- What the proof of `slots::step_anew` needs beside the tactics.
use Rattle.std.proofs.Common.{sym, subst, ◌≡◌}
use Rattle.state_reads.specs.Known.{AreLogsRead}
use Rattle.annex_base.specs.Settings.{Settings}
use Rattle.step_judging.specs.Rules.{effect_of, is_effect}
use Rattle.job_makes.specs.Turns.{turn_in, set_up_in}
use Rattle.state_jobs.specs.Phases.{phase_of}
use Rattle.state_jobs.specs.Works.{work_of}
use Rattle.node_model.specs.SetUp.{SetUp}
use Rattle.node_model.specs.State.{State}
use Rattle.std.proofs.lemmas.Result.{IfOk-weaker}
use Rattle.step_makes.specs.Knowledge.{IsTurnOf, HasRoom}
use Rattle.node_model.specs.Jobs.{partner}
use Rattle.node_model.specs.Turns.{by_partner}
use Rattle.step_makes.proofs.slots.step_anew.Goals as goal

pub returns : goal.returns
returns c =
    let x = c.args.turn.now in
    let n = x.work.now.number in
    let w = work_of x.work.now in
    let logs = c.in_ok-logs.logs in
    IfOk-weaker c.step_by_logs.result
    (λ b. (s : SetUp) (st : State) → IsTurnOf x s st → HasRoom x → AreLogsRead (st.read n) (set_up_in x s) w logs → b ≡ is_effect (by_partner (turn_in x s st) (partner x.work.now.what.peer (phase_of x.work.now.phase))) (effect_of x.told.now))
    (λ b. (s : SetUp) (st : State) → IsTurnOf x s st → HasRoom x → st.read n ≡ st.logs → s.paths x.work.now.number ≡ c.args.paths.now → b ≡ is_effect (by_partner (turn_in x s st) (partner x.work.now.what.peer (phase_of x.work.now.phase))) (effect_of x.told.now))
    (λ b told s st of room reads had.
    let now = subst (λ (l : Settings). AreLogsRead l s w logs) (sym reads) (c.in_ok-logs.ensures s st of.state_is had) in
    told s st of room (subst (λ (z : SetUp). AreLogsRead (st.read n) z w logs) (sym of.set_up) now))
    c.step_by_logs.ensures
