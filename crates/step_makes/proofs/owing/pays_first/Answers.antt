-- What the proof of `owing::pays_first` needs beside the tactics.
use Rattle.std.proofs.Common.{sym, ap, None, ℕ, List, Option, ◌∙◌, ◌≡◌, ◌∷◌, []}
use Rattle.annex_base.specs.declared.kinds.Call.{Call}
use Rattle.annex_base.specs.declared.kinds.Call.TheVariants.{PutFile}
use Rattle.annex_base.specs.declared.kinds.Word.{Word}
use Rattle.run_data.specs.declared.entry.EntryKind.TheVariants.{Fault, Log}
use Rattle.run_data.specs.declared.entry.LogFile.TheVariants.{Location}
use Rattle.node_model.specs.OwedLines.{OwedLine, due}
use Rattle.node_model.specs.OwedStep.{pays_first}
use Rattle.step_state.specs.States.{IsStateOf}
use Rattle.step_judging.specs.Same.{same_effect}
use Rattle.step_judging.specs.Rules.{effect_of, is_effect}
use Rattle.node_model.specs.SetUp.{SetUp}
use Rattle.node_model.specs.State.{State}
use Rattle.std.proofs.lemmas.Result.{IfOk-weaker}
use Rattle.node_model.specs.Look.{unless}
use Rattle.step_judging.specs.Telling.{look_of}
use Rattle.step_makes.proofs.owing.pays_first.Goals as goal

pub returns-in-Some : goal.returns-in-Some
returns-in-Some c = λ s st words os repos is.
    let told = c.args.told.now in
    let line = c.args.line.now in
    c.fails_to_pay.ensures ∙ ap (λ (o : Option Call). same_effect (unless o (λ call. record { kind = Fault call line.by; taken = None; sent = []; lines = []; calls = PutFile ∷ [] }) (record { kind = Log (Location line.key); taken = None; sent = []; lines = due s.repos st.lines (st.wall told.time) line; calls = PutFile ∷ [] })) (effect_of told)) (sym c.in-Some.is ∙ c.failing_put.ensures)

pub returns-in-None : goal.returns-in-None
returns-in-None c =
    let told = c.args.told.now in
    let line = c.args.line.now in
    IfOk-weaker c.pays.result
    (λ b. (s : SetUp) (st : State) → s.repos ≡ c.args.repos.now → IsStateOf c.args.state.now s st → b ≡ same_effect (record { kind = Log (Location line.key); taken = None; sent = []; lines = due s.repos st.lines (st.wall told.time) line; calls = PutFile ∷ [] }) (effect_of told))
    (λ b. (s : SetUp) (st : State) (words : ℕ → Option Word) (os : List OwedLine) → s.repos ≡ c.args.repos.now → IsStateOf c.args.state.now s st → b ≡ is_effect (pays_first s st (look_of st words told) (line ∷ os)) (effect_of told))
    (λ b paid s st words os repos is. paid s st repos is ∙ ap (λ (o : Option Call). same_effect (unless o (λ call. record { kind = Fault call line.by; taken = None; sent = []; lines = []; calls = PutFile ∷ [] }) (record { kind = Log (Location line.key); taken = None; sent = []; lines = due s.repos st.lines (st.wall told.time) line; calls = PutFile ∷ [] })) (effect_of told)) (sym c.in-None.is ∙ c.failing_put.ensures))
    c.pays.ensures
