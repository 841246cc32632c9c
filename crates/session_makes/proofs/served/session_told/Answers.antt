-- What the proof of `served::session_told` needs beside the tactics.
use Rattle.std.proofs.Common.{◌≡◌, ℕ, Bool, Option, Some, None, sym, ap, subst, ◌∙◌}
use Rattle.std.proofs.lemmas.Result.{IfOk-weaker}
use Rattle.annex_base.specs.declared.kinds.Word.{Word}
use Rattle.run_data.specs.declared.entry.FrameView.{FrameView}
use Rattle.node_model.specs.SetUp.{SetUp}
use Rattle.node_model.specs.Slots.{job_of}
use Rattle.node_model.specs.State.{State}
use Rattle.step_judging.specs.Rules.{effect_of, is_effect}
use Rattle.step_judging.specs.Telling.{look_of}
use Rattle.step_judging.specs.Told.{connection_told, session_told}
use Rattle.step_state.specs.States.{IsStateOf}
use Rattle.session_makes.proofs.served.session_told.Goals as goal

pub returns-in-Some : goal.returns-in-Some
returns-in-Some c =
    let e = c.args.told.now in
    let f = c.in-Some.frame in
    let told : Option FrameView → Bool → Type 0 = λ o b. (s : SetUp) (st : State) (words : ℕ → Option Word) → s.repos ≡ c.args.repos.now → IsStateOf c.args.state.now s st
    → job_of e.kind ≡ None → b ≡ is_effect (session_told s st (look_of st words e) (connection_told o e.sent)) (effect_of e) in
    IfOk-weaker c.taking_told.result
    (λ b. (s : SetUp) (st : State) (words : ℕ → Option Word) → s.repos ≡ c.args.repos.now → IsStateOf c.args.state.now s st → job_of e.kind ≡ None → e.taken ≡ Some f
    → b ≡ is_effect (session_told s st (look_of st words e) (Some (f.peer, f.slot))) (effect_of e))
    (told e.taken) (λ b so. subst (λ (o : Option FrameView). told o b) (sym c.in-Some.is) (λ s st words same is none. so s st words same is none c.in-Some.is)) c.taking_told.ensures

pub returns-in-None : goal.returns-in-None
returns-in-None c = λ s st words same is none.
    let e = c.args.told.now in
    c.first_told.ensures s st words same is none c.in-None.is
    ∙ ap (λ (o : Option FrameView). is_effect (session_told s st (look_of st words e) (connection_told o e.sent)) (effect_of e)) (sym c.in-None.is)
