-- What the proof of `slots::judges_forced` needs beside the tactics.
use Rattle.std.proofs.Common.{sym, ap, subst, true, false, None, Some, Option, ◌∙◌, ◌≡◌, true≢false}
use Rattle.state_reads.specs.Known.{AreLogsRead, KnownLogs}
use Rattle.state_reads.specs.Reads.{HasReadAs, IsOnly, reading_at}
use Rattle.step_makes.proofs.KnowledgeLemmas.{judging_read}
use Rattle.job_makes.specs.Turns.{turn_in, set_up_in}
use Rattle.std.specs.Option.{option_copied}
use Rattle.state_jobs.specs.Phases.{phase_of}
use Rattle.state_jobs.specs.Works.{work_of}
use Rattle.node_model.specs.SetUp.{SetUp}
use Rattle.node_model.specs.State.{State}
use Rattle.std.proofs.lemmas.Result.{IfOk-weaker}
use Rattle.step_makes.specs.Knowledge.{IsTurnOf}
use Rattle.node_model.specs.Jobs.{partner}
use Rattle.step_judging.specs.Told.{is_forced}
use Rattle.step_makes.proofs.slots.judges_forced.Goals as goal

pub returns-in-Some : goal.returns-in-Some
returns-in-Some c =
    let x = c.args.turn.now in
    let n = x.work.now.number in
    let w = work_of x.work.now in
    let logs = c.in-Some.logs.now in
    IfOk-weaker c.forced_by_logs.result
    (λ b. (s : SetUp) (st : State) → AreLogsRead (st.read n) (set_up_in x s) w logs → b ≡ is_forced (turn_in x s st) (partner x.work.now.what.peer (phase_of x.work.now.phase)))
    (λ b. (s : SetUp) (st : State) → IsTurnOf x s st → IsOnly st.works (work_of x.work.now) → b ≡ is_forced (turn_in x s st) (partner x.work.now.what.peer (phase_of x.work.now.phase)))
    (λ b told s st of only.
    let kept : reading_at c.reads-reads.result.now n ≡ Some logs = sym c.reading.ensures ∙ ap option_copied c.in-Some.is in
    let read = subst (λ (o : Option KnownLogs). HasReadAs s st w o) kept ((c.reads-reads.ensures s st of.state_is).each w only) in
    told s st (subst (λ (z : SetUp). AreLogsRead (st.read n) z w logs) (sym of.set_up) read))
    c.forced_by_logs.ensures

pub returns-in-None : goal.returns-in-None
returns-in-None c = λ s st of only.
    let x = c.args.turn.now in
    let n = x.work.now.number in
    let w = work_of x.work.now in
    let none : reading_at c.reads-reads.result.now n ≡ None = sym c.reading.ensures ∙ ap option_copied c.in-None.is in
    let read = subst (λ (o : Option KnownLogs). HasReadAs s st w o) none ((c.reads-reads.ensures s st of.state_is).each w only) in
    absurd (true≢false (sym (judging_read w.part w.phase c.requires) ∙ read.0))
