-- What the proof of `slots::step_with_logs` needs beside the tactics.
use Rattle.std.proofs.Common.{sym, ap, subst, None, Some, Option, ◌∙◌, ◌≡◌}
use Rattle.state_reads.specs.Known.{AreLogsRead, KnownLogs}
use Rattle.state_reads.specs.Reads.{HasReadAs, IsOnly, reading_at}
use Rattle.step_judging.specs.Rules.{effect_of, is_effect}
use Rattle.job_makes.specs.Turns.{turn_in, set_up_in}
use Rattle.std.specs.Option.{option_copied}
use Rattle.state_jobs.specs.Phases.{phase_of}
use Rattle.state_jobs.specs.Works.{work_of}
use Rattle.node_model.specs.SetUp.{SetUp}
use Rattle.node_model.specs.State.{State}
use Rattle.std.proofs.lemmas.Result.{IfOk-weaker}
use Rattle.step_makes.specs.Knowledge.{IsTurnOf, HasRoom}
use Rattle.node_model.specs.Jobs.{partner}
use Rattle.node_model.specs.Turns.{by_partner}
use Rattle.step_makes.proofs.slots.step_with_logs.Goals as goal

pub returns-in-Some : goal.returns-in-Some
returns-in-Some c =
    let x = c.args.turn.now in
    let n = x.work.now.number in
    let w = work_of x.work.now in
    IfOk-weaker c.step_by_logs.result
    (λ b. (s : SetUp) (st : State) → IsTurnOf x s st → HasRoom x → AreLogsRead (st.read n) (set_up_in x s) w c.in-Some.logs.now → b ≡ is_effect (by_partner (turn_in x s st) (partner x.work.now.what.peer (phase_of x.work.now.phase))) (effect_of x.told.now))
    (λ b. (s : SetUp) (st : State) → IsTurnOf x s st → HasRoom x → IsOnly st.works (work_of x.work.now) → s.paths x.work.now.number ≡ c.args.paths.now → b ≡ is_effect (by_partner (turn_in x s st) (partner x.work.now.what.peer (phase_of x.work.now.phase))) (effect_of x.told.now))
    (λ b told s st of room only had.
    let kept : reading_at c.reads-reads.result.now n ≡ Some c.in-Some.logs.now = sym c.reading.ensures ∙ ap option_copied c.in-Some.is in
    let read = subst (λ (o : Option KnownLogs). HasReadAs s st w o) kept ((c.reads-reads.ensures s st of.state_is).each w only) in
    told s st of room (subst (λ (z : SetUp). AreLogsRead (st.read n) z w c.in-Some.logs.now) (sym of.set_up) read))
    c.step_by_logs.ensures

pub returns-in-None : goal.returns-in-None
returns-in-None c =
    let x = c.args.turn.now in
    let n = x.work.now.number in
    let w = work_of x.work.now in
    IfOk-weaker c.step_anew.result
    (λ b. (s : SetUp) (st : State) → IsTurnOf x s st → HasRoom x → st.read n ≡ st.logs → s.paths x.work.now.number ≡ c.args.paths.now → b ≡ is_effect (by_partner (turn_in x s st) (partner x.work.now.what.peer (phase_of x.work.now.phase))) (effect_of x.told.now))
    (λ b. (s : SetUp) (st : State) → IsTurnOf x s st → HasRoom x → IsOnly st.works (work_of x.work.now) → s.paths x.work.now.number ≡ c.args.paths.now → b ≡ is_effect (by_partner (turn_in x s st) (partner x.work.now.what.peer (phase_of x.work.now.phase))) (effect_of x.told.now))
    (λ b told s st of room only had.
    let none : reading_at c.reads-reads.result.now n ≡ None = sym c.reading.ensures ∙ ap option_copied c.in-None.is in
    let read = subst (λ (o : Option KnownLogs). HasReadAs s st w o) none ((c.reads-reads.ensures s st of.state_is).each w only) in
    told s st of room read.1 had)
    c.step_anew.ensures
