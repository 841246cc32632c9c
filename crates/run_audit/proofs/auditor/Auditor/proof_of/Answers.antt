-- What the proof of `auditor::Auditor::proof_of` needs beside the tactics.
use Rattle.std.proofs.Common.{◌≡◌, ◌==◌, Option, Some, find, ap, sym, ◌∙◌}
use Rattle.std.specs.Option.{option_copied}
use Rattle.std.proofs.lemmas.Result.{IfOk-weaker}
use Rattle.run_data.specs.declared.job.Proof.{Proof}
use Rattle.run_data.specs.declared.run.Run.{Run}
use Rattle.node_model.specs.Jobs as jobs
use Rattle.node_model.specs.SetUp.{SetUp}
use Rattle.node_model.specs.State.{State}
use Rattle.audit_laws.specs.Proofs.{proof_after, proof_in}
use Rattle.step_makes.specs.Numbers.{AreAlone}
use Rattle.step_state.specs.States.{IsStateOf}
use Rattle.run_audit.specs.Audited.{IsAuditorOf}
use Rattle.run_audit.proofs.Jobs.{few_made, many_repos, told_nowhere, told_there}
use Rattle.run_audit.proofs.auditor.Auditor.proof_of.Goals as goal

pub proof_of_job-requires-clause-many : goal.proof_of_job-requires-clause-many
proof_of_job-requires-clause-many c = many_repos c.args.self.now c.requires.carried

pub proof_of_job-requires-clause-few : goal.proof_of_job-requires-clause-few
proof_of_job-requires-clause-few c =
    few_made c.args.self.now.state c.requires.carried.carried c.requires.few c.args.repo c.in-Some.state.now (sym c.repo.ensures ∙ ap option_copied c.in-Some.is)

pub returns-in-Some : goal.returns-in-Some
returns-in-Some c =
    let x = c.args.self.now in
    let r = c.args.repo in
    let job = c.args.job in
    let st = c.in-Some.state.now in
    let paths = c.paths-paths.result.now in
    IfOk-weaker c.proof_of_job.result
    (λ (p : Option Proof). (s : SetUp) (state : State) → s.repos ≡ x.repos.now → IsStateOf st s state → AreAlone state.works
    → ((w : jobs.Work) → find (λ v. v.number == job) state.works ≡ Some w → s.paths w.number ≡ paths) → p ≡ proof_in s state job)
    (λ (p : Option Proof). (run : Run) → IsAuditorOf x run → p ≡ proof_after run r job)
    (λ p told run of.
    told_there c.carried_states_agree.ensures.own_states x.state run of.after r job st (sym c.repo.ensures ∙ ap option_copied c.in-Some.is) paths c.paths-paths.ensures p
    (λ s state repos is alone had. told s state (repos ∙ of.repos) is alone had))
    c.proof_of_job.ensures

pub returns-in-None : goal.returns-in-None
returns-in-None c = λ run of.
    told_nowhere c.args.self.now.state run of.after c.args.repo c.args.job (sym c.repo.ensures ∙ ap option_copied c.in-None.is)
