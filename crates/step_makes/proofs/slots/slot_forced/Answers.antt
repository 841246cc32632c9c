-- What the proof of `slots::slot_forced` needs beside the tactics.
use Rattle.std.proofs.Common.{sym, ap, subst, None, Some, Bool, List, Option, find, ◌∙◌, ◌≡◌, ◌==◌}
use Rattle.node_model.specs.Jobs as jobs
use Rattle.node_model.specs.JobStep as steps
use Rattle.state_jobs.specs.declared.work.Work.{Work}
use Rattle.step_state.specs.States.{IsStateOf}
use Rattle.step_state.specs.declared.state.RepoState.{RepoState}
use Rattle.step_makes.proofs.SlotLemmas.{found_only}
use Rattle.job_makes.specs.Turns.{turn_in, word_in}
use Rattle.std.specs.Option.{option_copied, option_map}
use Rattle.state_jobs.specs.Phases.{phase_of}
use Rattle.state_jobs.specs.Works.{work_of}
use Rattle.node_model.specs.SetUp.{SetUp}
use Rattle.node_model.specs.State.{State}
use Rattle.std.proofs.lemmas.Result.{IfOk-weaker}
use Rattle.step_makes.specs.Knowledge.{IsTurnOf}
use Rattle.step_makes.proofs.KnowledgeLemmas.{turn_same}
use Rattle.node_model.specs.JobStep.{turn_of}
use Rattle.node_model.specs.Jobs.{partner}
use Rattle.step_judging.specs.Telling.{look_of}
use Rattle.step_judging.specs.Told.{forced_in, is_forced}
use Rattle.state_reads.specs.Reads.{IsOnly}
use Rattle.step_makes.specs.Numbers.{AreAlone}
use Rattle.step_makes.proofs.slots.slot_forced.Goals as goal

pub returns-in-Some : goal.returns-in-Some
returns-in-Some c =
    let x = c.args.turn.now in
    let own = c.new-own.result in
    let given = c.new-own.ensures.given in
    let p : jobs.Work → Bool = λ w. w.slot == c.args.slot in
    let w = work_of c.in-Some.work.now in
    IfOk-weaker c.job_forced.result
    (λ b. (s : SetUp) (st : State) → IsTurnOf own s st → IsOnly st.works (work_of own.work.now) → b ≡ is_forced (turn_in own s st) (partner own.work.now.what.peer (phase_of own.work.now.phase)))
    (λ b. (s : SetUp) (st : State) → IsTurnOf x s st → AreAlone st.works → b ≡ forced_in s st (look_of st (word_in x.words.now) x.told.now) (find p st.works))
    (λ b told s st of alone.
    let its : IsTurnOf own s st = record {
      repos = of.repos ∙ sym given.repos;
      state_is = subst (λ (z : RepoState). IsStateOf z s st) (sym given.state) of.state_is;
      set_up = c.new-own.ensures.set_up s st of.repos of.state_is;
      state = c.new-own.ensures.state s st of.state_is;
    } in
    let seen : find p st.works ≡ Some w =
    ap (λ (ws : List jobs.Work). find p ws) (sym (c.running.ensures ∙ ap (λ (z : State). z.works) of.state)) ∙ sym c.work_in.ensures ∙ ap (λ (o : Option Work). option_map work_of o) (ap option_copied c.in-Some.is) in
    let only = subst (λ (z : Work). IsOnly st.works (work_of z)) (sym given.work) (found_only st.works p w alone seen) in
    told s st its only
    ∙ ap (λ (t : steps.Turn). is_forced t (partner own.work.now.what.peer (phase_of own.work.now.phase))) (turn_same own s st its)
    ∙ (λ i. let v = work_of (given.work i) in is_forced (turn_of s st (look_of st (word_in (given.words i)) (given.told i)) v) (partner v.what.peer v.phase))
    ∙ ap (λ (o : Option jobs.Work). forced_in s st (look_of st (word_in x.words.now) x.told.now) o) (sym seen))
    c.job_forced.ensures

pub returns-in-None : goal.returns-in-None
returns-in-None c = λ s st of alone.
    let x = c.args.turn.now in
    let p : jobs.Work → Bool = λ w. w.slot == c.args.slot in
    let seen : find p st.works ≡ None =
    ap (λ (ws : List jobs.Work). find p ws) (sym (c.running.ensures ∙ ap (λ (z : State). z.works) of.state)) ∙ sym c.work_in.ensures ∙ ap (λ (o : Option Work). option_map work_of o) (ap option_copied c.in-None.is) in
    ap (λ (o : Option jobs.Work). forced_in s st (look_of st (word_in x.words.now) x.told.now) o) (sym seen)
