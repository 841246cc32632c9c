-- What the proof of `evidence::proof_by_logs` needs beside the tactics.
use Rattle.std.proofs.Common.{◌≡◌, sym, ap, ◌∙◌}
use Rattle.std.proofs.lemmas.Result.{IfOk-weaker}
use Rattle.run_data.specs.declared.job.Proof.{Proof}
use Rattle.node_model.specs.JobStep as steps
use Rattle.node_model.specs.Knows.{Reading, proof_by, reading}
use Rattle.node_model.specs.SetUp.{SetUp}
use Rattle.node_model.specs.State.{State}
use Rattle.state_jobs.specs.Works.{work_of}
use Rattle.state_reads.specs.Known.{AreLogsRead}
use Rattle.job_makes.specs.Turns.{set_up_in}
use Rattle.drop_makes.specs.Knowings.{reading_in}
use Rattle.step_makes.specs.Knowledge.{IsTurnOf}
use Rattle.run_audit.proofs.evidence.proof_by_logs.Goals as goal

pub returns : goal.returns
returns c =
    let x = c.args.turn.now in
    let logs = c.args.logs.now in
    let w = work_of x.work.now in
    let k = c.in_ok-known.known in
    IfOk-weaker c.proof.result
    (λ (p : Proof). p ≡ proof_by (reading_in k.turn.now k.logs.now) (work_of k.turn.now.work.now))
    (λ (p : Proof). (s : SetUp) (st : State) → IsTurnOf x s st → AreLogsRead (st.read x.work.now.number) (set_up_in x s) w logs → p ≡ proof_by (reading s st w) w)
    (λ p is s st of read.
    let law = c.readings_are_kept.ensures x logs s st read in
    let same : reading s st w ≡ reading_in x logs = (λ i. reading (sym of.set_up i) (sym of.state i) w) ∙ ap (λ (t : steps.Turn). t.read) law in
    is ∙ (λ i. proof_by (reading_in (c.in_ok-known.ensures.turn i) (c.in_ok-known.ensures.logs i)) (work_of (c.in_ok-known.ensures.turn i).work.now)) ∙ ap (λ (r : Reading). proof_by r w) (sym same))
    c.proof.ensures
