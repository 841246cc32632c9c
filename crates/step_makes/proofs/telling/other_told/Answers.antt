-- What the proof of `telling::other_told` needs beside the tactics.
use Rattle.std.proofs.Common.{sym, ap, None, Some, ℕ, Option, find, ◌∙◌, ◌≡◌, ◌==◌}
use Rattle.node_model.specs.Jobs as jobs
use Rattle.annex_base.specs.declared.kinds.Word.{Word}
use Rattle.step_judging.specs.Told.{connection_told, job_told, other_told, session_told}
use Rattle.step_state.specs.States.{IsStateOf}
use Rattle.state_reads.specs.Reads.{HadPaths}
use Rattle.step_judging.specs.Rules.{effect_of, is_effect}
use Rattle.job_makes.specs.Turns.{word_in}
use Rattle.node_model.specs.SetUp.{SetUp}
use Rattle.node_model.specs.State.{State}
use Rattle.std.proofs.lemmas.Result.{IfOk-weaker}
use Rattle.step_judging.specs.Telling.{look_of}
use Rattle.step_makes.specs.Numbers.{AreAlone}
use Rattle.node_model.specs.Slots.{job_of}
use Rattle.step_makes.proofs.telling.other_told.Goals as goal

pub returns-in-Some : goal.returns-in-Some
returns-in-Some c =
    let e = c.args.entry.now in
    let job = c.in-Some.job in
    IfOk-weaker c.job_told.result
    (λ b. (s : SetUp) (st : State) → job_of e.kind ≡ Some job → s.repos ≡ c.args.repos.now → s.paths job ≡ c.args.paths.now → IsStateOf c.args.state.now s st → AreAlone st.works → b ≡ job_told s st (look_of st (word_in c.args.words.now) c.args.entry.now) (effect_of c.args.entry.now) (find (λ (v : jobs.Work). v.number == job) st.works))
    (λ b. (s : SetUp) (st : State) → s.repos ≡ c.args.repos.now → HadPaths s e.kind c.args.paths.now → IsStateOf c.args.state.now s st → AreAlone st.works → b ≡ other_told s st (look_of st (word_in c.args.words.now) c.args.entry.now) (effect_of c.args.entry.now) (job_of e.kind))
    (λ b told s st repos had is alone.
    let named : job_of e.kind ≡ Some job = sym c.job_of.ensures ∙ c.in-Some.is in
    told s st named repos (had job named) is alone ∙ ap (λ (o : Option ℕ). other_told s st (look_of st (word_in c.args.words.now) c.args.entry.now) (effect_of c.args.entry.now) o) (sym named))
    c.job_told.ensures

pub returns-in-None : goal.returns-in-None
returns-in-None c =
    let e = c.args.entry.now in
    IfOk-weaker c.session_told.result
    (λ b. (s : SetUp) (st : State) → (words : ℕ → Option Word) → s.repos ≡ c.args.repos.now → IsStateOf c.args.state.now s st → job_of e.kind ≡ None → b ≡ is_effect (session_told s st (look_of st words e) (connection_told e.taken e.sent)) (effect_of e))
    (λ b. (s : SetUp) (st : State) → s.repos ≡ c.args.repos.now → HadPaths s e.kind c.args.paths.now → IsStateOf c.args.state.now s st → AreAlone st.works → b ≡ other_told s st (look_of st (word_in c.args.words.now) c.args.entry.now) (effect_of c.args.entry.now) (job_of e.kind))
    (λ b told s st repos had is alone.
    let named : job_of e.kind ≡ None = sym c.job_of.ensures ∙ c.in-None.is in
    told s st (word_in c.args.words.now) repos is named ∙ ap (λ (o : Option ℕ). other_told s st (look_of st (word_in c.args.words.now) c.args.entry.now) (effect_of c.args.entry.now) o) (sym named))
    c.session_told.ensures
