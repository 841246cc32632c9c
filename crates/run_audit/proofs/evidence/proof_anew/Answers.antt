-- What the proof of `evidence::proof_anew` needs beside the tactics.
use Rattle.std.proofs.Common.{sym, subst, ◌≡◌}
use Rattle.std.proofs.lemmas.Result.{IfOk-weaker}
use Rattle.annex_base.specs.Settings.{Settings}
use Rattle.run_data.specs.declared.job.Proof.{Proof}
use Rattle.node_model.specs.Knows.{proof_by, reading}
use Rattle.node_model.specs.SetUp.{SetUp}
use Rattle.node_model.specs.State.{State}
use Rattle.state_jobs.specs.Works.{work_of}
use Rattle.state_reads.specs.Known.{AreLogsRead}
use Rattle.job_makes.specs.Turns.{set_up_in}
use Rattle.step_makes.specs.Knowledge.{IsTurnOf}
use Rattle.run_audit.proofs.evidence.proof_anew.Goals as goal

pub returns : goal.returns
returns c =
    let x = c.args.turn.now in
    let n = x.work.now.number in
    let w = work_of x.work.now in
    let logs = c.in_ok-logs.logs in
    IfOk-weaker c.proof_by_logs.result
    (λ (p : Proof). (s : SetUp) (st : State) → IsTurnOf x s st → AreLogsRead (st.read n) (set_up_in x s) w logs → p ≡ proof_by (reading s st w) w)
    (λ (p : Proof). (s : SetUp) (st : State) → IsTurnOf x s st → st.read n ≡ st.logs → s.paths n ≡ c.args.paths.now → p ≡ proof_by (reading s st w) w)
    (λ p told s st of reads had.
    let now = subst (λ (l : Settings). AreLogsRead l s w logs) (sym reads) (c.in_ok-logs.ensures s st of.state_is had) in
    told s st of (subst (λ (z : SetUp). AreLogsRead (st.read n) z w logs) (sym of.set_up) now))
    c.proof_by_logs.ensures
