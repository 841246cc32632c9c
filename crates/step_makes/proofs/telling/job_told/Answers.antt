-- What the proof of `telling::job_told` needs beside the tactics.
use Rattle.std.proofs.Common.{sym, ap, None, Some, ℕ, List, Option, find, ◌∙◌, ◌≡◌, ◌==◌}
use Rattle.node_model.specs.Jobs as jobs
use Rattle.state_jobs.specs.declared.work.Work.{Work}
use Rattle.step_state.specs.States.{IsStateOf}
use Rattle.step_judging.specs.Rules.{effect_of}
use Rattle.job_makes.specs.Turns.{word_in}
use Rattle.std.specs.Option.{option_copied, option_map}
use Rattle.state_jobs.specs.Works.{work_of}
use Rattle.node_model.specs.SetUp.{SetUp}
use Rattle.node_model.specs.State.{State}
use Rattle.std.proofs.lemmas.Result.{IfOk-weaker}
use Rattle.step_judging.specs.Telling.{look_of}
use Rattle.step_judging.specs.Told.{job_told}
use Rattle.step_makes.specs.Numbers.{AreAlone}
use Rattle.node_model.specs.Slots.{job_of}
use Rattle.step_makes.proofs.telling.job_told.Goals as goal

pub returns-in-Some : goal.returns-in-Some
returns-in-Some c =
    let e = c.args.entry.now in
    let job = c.args.job in
    let w = work_of c.in-Some.work.now in
    IfOk-weaker c.work_told.result
    (λ b. (s : SetUp) (st : State) → (n : ℕ) → job_of e.kind ≡ Some n → find (λ (v : jobs.Work). v.number == n) st.works ≡ Some w → s.repos ≡ c.args.repos.now → s.paths n ≡ c.args.paths.now → IsStateOf c.args.state.now s st → AreAlone st.works → b ≡ job_told s st (look_of st (word_in c.args.words.now) c.args.entry.now) (effect_of c.args.entry.now) (Some w))
    (λ b. (s : SetUp) (st : State) → job_of e.kind ≡ Some job → s.repos ≡ c.args.repos.now → s.paths job ≡ c.args.paths.now → IsStateOf c.args.state.now s st → AreAlone st.works → b ≡ job_told s st (look_of st (word_in c.args.words.now) c.args.entry.now) (effect_of c.args.entry.now) (find (λ (v : jobs.Work). v.number == job) st.works))
    (λ b told s st named repos had is alone.
    let seen : find (λ (v : jobs.Work). v.number == job) st.works ≡ Some w =
    ap (λ (ws : List jobs.Work). find (λ (v : jobs.Work). v.number == job) ws) (c.jobs-jobs.ensures s st is).works ∙ sym c.job.ensures ∙ ap (λ (o : Option Work). option_map work_of o) (ap option_copied c.in-Some.is) in
    told s st job named seen repos had is alone ∙ ap (λ (o : Option jobs.Work). job_told s st (look_of st (word_in c.args.words.now) c.args.entry.now) (effect_of c.args.entry.now) o) (sym seen))
    c.work_told.ensures

pub returns-in-None : goal.returns-in-None
returns-in-None c = λ s st named repos had is alone.
    let job = c.args.job in
    let seen : find (λ (v : jobs.Work). v.number == job) st.works ≡ None =
    ap (λ (ws : List jobs.Work). find (λ (v : jobs.Work). v.number == job) ws) (c.jobs-jobs.ensures s st is).works ∙ sym c.job.ensures ∙ ap (λ (o : Option Work). option_map work_of o) (ap option_copied c.in-None.is) in
    ap (λ (o : Option jobs.Work). job_told s st (look_of st (word_in c.args.words.now) c.args.entry.now) (effect_of c.args.entry.now) o) (sym seen)
