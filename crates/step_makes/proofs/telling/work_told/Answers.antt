-- What the proof of `telling::work_told` needs beside the tactics.
use Rattle.std.proofs.Common.{sym, ap, subst, true, Some, ℕ, find, ◌∙◌, ◌≡◌, ◌==◌}
use Rattle.node_model.specs.Jobs as jobs
use Rattle.node_model.specs.SetUp.{SetUp, slots}
use Rattle.state_jobs.specs.declared.work.Work.{Work}
use Rattle.state_works.specs.Jobs.{works_of}
use Rattle.step_state.specs.States.{IsStateOf}
use Rattle.step_state.specs.declared.state.RepoState.{RepoState}
use Rattle.step_makes.proofs.RoomLemmas.{runs_there}
use Rattle.step_makes.proofs.SlotLemmas.{found_only, number_found}
use Rattle.step_judging.specs.Rules.{effect_of}
use Rattle.job_makes.specs.Turns.{word_in}
use Rattle.state_jobs.specs.Works.{work_of}
use Rattle.node_model.specs.State.{State}
use Rattle.std.proofs.lemmas.Result.{IfOk-weaker}
use Rattle.step_makes.specs.Knowledge.{IsTurnOf, HasRoom}
use Rattle.step_judging.specs.Telling.{look_of, room_told}
use Rattle.step_judging.specs.Told.{told_in, job_told}
use Rattle.state_reads.specs.Reads.{IsOnly}
use Rattle.step_makes.specs.Numbers.{AreAlone}
use Rattle.node_model.specs.Slots.{job_of}
use Rattle.step_makes.proofs.telling.work_told.Goals as goal

pub returns : goal.returns
returns c =
    let x = c.new-turn.result in
    let given = c.new-turn.ensures.given in
    let w = work_of c.args.work.now in
    let e = c.args.entry.now in
    IfOk-weaker c.told_in.result
    (λ b. (s : SetUp) (st : State) → IsTurnOf x s st → HasRoom x → AreAlone st.works → IsOnly st.works (work_of x.work.now) → s.paths x.work.now.number ≡ c.args.paths.now → b ≡ told_in s st (look_of st (word_in x.words.now) x.told.now) (work_of x.work.now) (effect_of x.told.now) slots)
    (λ b. (s : SetUp) (st : State) → (job : ℕ) → job_of e.kind ≡ Some job → find (λ (v : jobs.Work). v.number == job) st.works ≡ Some w → s.repos ≡ c.args.repos.now → s.paths job ≡ c.args.paths.now → IsStateOf c.args.state.now s st → AreAlone st.works → b ≡ job_told s st (look_of st (word_in c.args.words.now) c.args.entry.now) (effect_of c.args.entry.now) (Some w))
    (λ b told s st job named found repos had is alone.
    let its : IsTurnOf x s st = record {
      repos = repos ∙ sym given.repos;
      state_is = subst (λ (z : RepoState). IsStateOf z s st) (sym given.state) is;
      set_up = c.new-turn.ensures.set_up s st repos is;
      state = c.new-turn.ensures.state s st is;
    } in
    let runs = runs_there st.works (job_of e.kind) job w e.taken e.sent named found in
    let same : works_of x.jobs.now ≡ st.works = ap (λ (z : State). z.works) its.state in
    let room : HasRoom x = (λ i. room_told (same i) (job_of (given.told i).kind) (given.told i).taken (given.told i).sent (record { peer = 0; slot = (given.work i).slot; client = true })) ∙ runs in
    let only = subst (λ (z : Work). IsOnly st.works (work_of z)) (sym given.work) (found_only st.works (λ (v : jobs.Work). v.number == job) w alone found) in
    let numbered : w.number ≡ job = number_found st.works job w found in
    let paths = ap (λ (z : Work). s.paths z.number) given.work ∙ ap (λ (n : ℕ). s.paths n) numbered ∙ had in
    told s st its room alone only paths
    ∙ (λ i. told_in s st (look_of st (word_in (given.words i)) (given.told i)) (work_of (given.work i)) (effect_of (given.told i)) slots))
    c.told_in.ensures
