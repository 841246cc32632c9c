-- What the proof of `evidence::proof_of_turn` needs beside the tactics.
use Rattle.std.proofs.Common.{sym, ap, subst, None, Some, Option, ◌∙◌, ◌≡◌}
use Rattle.std.specs.Option.{option_copied}
use Rattle.std.proofs.lemmas.Result.{IfOk-weaker}
use Rattle.run_data.specs.declared.job.Proof.{Proof}
use Rattle.node_model.specs.Knows.{proof_by, reading}
use Rattle.node_model.specs.SetUp.{SetUp}
use Rattle.node_model.specs.State.{State}
use Rattle.state_jobs.specs.Works.{work_of}
use Rattle.state_reads.specs.Known.{AreLogsRead, KnownLogs}
use Rattle.state_reads.specs.Reads.{HasReadAs, IsOnly, reading_at}
use Rattle.job_makes.specs.Turns.{set_up_in}
use Rattle.step_makes.specs.Knowledge.{IsTurnOf}
use Rattle.run_audit.proofs.evidence.proof_of_turn.Goals as goal

pub returns-in-Some : goal.returns-in-Some
returns-in-Some c =
    let x = c.args.turn.now in
    let n = x.work.now.number in
    let w = work_of x.work.now in
    let logs = c.in-Some.logs.now in
    IfOk-weaker c.proof_by_logs.result
    (λ (p : Proof). (s : SetUp) (st : State) → IsTurnOf x s st → AreLogsRead (st.read n) (set_up_in x s) w logs → p ≡ proof_by (reading s st w) w)
    (λ (p : Proof). (s : SetUp) (st : State) → IsTurnOf x s st → IsOnly st.works w → s.paths n ≡ c.args.paths.now → p ≡ proof_by (reading s st w) w)
    (λ p told s st of only had.
    let kept : reading_at c.reads-reads.result.now n ≡ Some logs = sym c.reading.ensures ∙ ap option_copied c.in-Some.is in
    let read = subst (λ (o : Option KnownLogs). HasReadAs s st w o) kept ((c.reads-reads.ensures s st of.state_is).each w only) in
    told s st of (subst (λ (z : SetUp). AreLogsRead (st.read n) z w logs) (sym of.set_up) read))
    c.proof_by_logs.ensures

pub returns-in-None : goal.returns-in-None
returns-in-None c =
    let x = c.args.turn.now in
    let n = x.work.now.number in
    let w = work_of x.work.now in
    IfOk-weaker c.proof_anew.result
    (λ (p : Proof). (s : SetUp) (st : State) → IsTurnOf x s st → st.read n ≡ st.logs → s.paths n ≡ c.args.paths.now → p ≡ proof_by (reading s st w) w)
    (λ (p : Proof). (s : SetUp) (st : State) → IsTurnOf x s st → IsOnly st.works w → s.paths n ≡ c.args.paths.now → p ≡ proof_by (reading s st w) w)
    (λ p told s st of only had.
    let none : reading_at c.reads-reads.result.now n ≡ None = sym c.reading.ensures ∙ ap option_copied c.in-None.is in
    let read = subst (λ (o : Option KnownLogs). HasReadAs s st w o) none ((c.reads-reads.ensures s st of.state_is).each w only) in
    told s st of read.1 had)
    c.proof_anew.ensures
