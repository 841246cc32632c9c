-- What the proof of `evidence::proof_of_job` needs beside the tactics.
use Rattle.std.proofs.Common.{sym, ap, subst, find, List, None, Some, Option, ◌∙◌, ◌≡◌, ◌==◌, Bool}
use Rattle.std.specs.Option.{option_copied, option_map}
use Rattle.node_model.specs.Jobs as jobs
use Rattle.node_model.specs.Knows.{proof_by, reading}
use Rattle.state_jobs.specs.Works.{work_of}
use Rattle.state_jobs.specs.declared.work.Work.{Work}
use Rattle.state_reads.specs.Reads.{IsOnly}
use Rattle.step_makes.specs.Knowledge.{IsTurnOf}
use Rattle.step_state.specs.States.{IsStateOf}
use Rattle.step_state.specs.declared.state.RepoState.{RepoState}
use Rattle.run_audit.proofs.Jobs.{found_only}
use Rattle.run_audit.proofs.evidence.proof_of_job.Goals as goal

pub returns-in_ok-proof-in-Some : goal.returns-in_ok-proof-in-Some
returns-in_ok-proof-in-Some c = λ s st repos is alone paths.
    let x = c.new-turn.result in
    let given = c.new-turn.ensures.given in
    let p : jobs.Work → Bool = λ w. w.number == c.args.job in
    let w = work_of c.in-Some.work.now in
    let its : IsTurnOf x s st = record {
      repos = repos ∙ sym given.repos;
      state_is = subst (λ (z : RepoState). IsStateOf z s st) (sym given.state) is;
      set_up = c.new-turn.ensures.set_up s st repos is;
      state = c.new-turn.ensures.state s st is;
    } in
    let seen : find p st.works ≡ Some w =
    ap (λ (ws : List jobs.Work). find p ws) (c.jobs.ensures s st is).works ∙ sym c.job.ensures ∙ ap (λ (o : Option Work). option_map work_of o) (ap option_copied c.in-Some.is) in
    let only = subst (λ (z : Work). IsOnly st.works (work_of z)) (sym given.work) (found_only st.works p w alone seen) in
    let had = subst (λ (z : Work). s.paths (work_of z).number ≡ c.args.paths.now) (sym given.work) (paths w seen) in
    ap Some (c.in_ok-proof-in-Some.ensures s st its only had ∙ (λ i. proof_by (reading s st (work_of (given.work i))) (work_of (given.work i))))
    ∙ ap (option_map (λ v. proof_by (reading s st v) v)) (sym seen)

pub returns-in-None : goal.returns-in-None
returns-in-None c = λ s st repos is alone paths.
    let p : jobs.Work → Bool = λ w. w.number == c.args.job in
    let seen : find p st.works ≡ None =
    ap (λ (ws : List jobs.Work). find p ws) (c.jobs.ensures s st is).works ∙ sym c.job.ensures ∙ ap (λ (o : Option Work). option_map work_of o) (ap option_copied c.in-None.is) in
    ap (option_map (λ v. proof_by (reading s st v) v)) (sym seen)
