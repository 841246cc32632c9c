-- What the proof of `telling::told` needs beside the tactics.
use Rattle.std.proofs.Common.{sym, ap, subst, None, Some, ℕ, List, Option, ◌∙◌, ◌≡◌, ◌∷◌, ◌<◌}
use Rattle.std.specs.Prelude.{drop}
use Rattle.annex_base.specs.declared.kinds.Word.{Word}
use Rattle.node_model.specs.OwedLines.{OwedLine}
use Rattle.node_model.specs.OwedStep.{pays_first}
use Rattle.step_judging.specs.Told.{effect_told, is_told, other_told}
use Rattle.step_state.specs.States.{IsStateOf, count_of}
use Rattle.state_reads.specs.Reads.{HadPaths}
use Rattle.state_owed.specs.Lines.{IsFirst, IsWithin}
use Rattle.annex_base.specs.Lists.{Each}
use Rattle.state_owed.specs.Owed.{lines_of}
use Rattle.step_judging.specs.Rules.{effect_of, is_effect}
use Rattle.job_makes.specs.Turns.{word_in}
use Rattle.std.specs.Option.{option_copied}
use Rattle.node_model.specs.SetUp.{SetUp}
use Rattle.node_model.specs.State.{State}
use Rattle.std.proofs.lemmas.Result.{IfOk-weaker}
use Rattle.step_judging.specs.Telling.{look_of}
use Rattle.step_makes.specs.Numbers.{AreAlone}
use Rattle.node_model.specs.Slots.{job_of}
use Rattle.step_makes.proofs.telling.told.Goals as goal

pub pays_first-requires-clause-within : goal.pays_first-requires-clause-within
pays_first-requires-clause-within c =
    let o = c.in-Some.line.now in
    let os = lines_of c.owed-owed.result.now in
    let first : IsFirst (Some o) os = subst (λ (z : Option OwedLine). IsFirst z os) (ap option_copied c.in-Some.is) c.first.ensures in
    let all = subst (λ (xs : List OwedLine). Each (IsWithin (count_of c.args.state.now)) xs) first (c.owed-owed.ensures.within c.requires.well) in
    subst (λ (n : ℕ). o.repo < n) c.requires.repos all.0

pub returns-in-Some : goal.returns-in-Some
returns-in-Some c =
    let o = c.in-Some.line.now in
    IfOk-weaker c.pays_first.result
    (λ b. (s : SetUp) (st : State) → (words : ℕ → Option Word) (os : List OwedLine) → s.repos ≡ c.args.repos.now → IsStateOf c.args.state.now s st → b ≡ is_effect (pays_first s st (look_of st words c.args.entry.now) (o ∷ os)) (effect_of c.args.entry.now))
    (λ b. (s : SetUp) (st : State) → s.repos ≡ c.args.repos.now → HadPaths s c.args.entry.now.kind c.args.paths.now → IsStateOf c.args.state.now s st → AreAlone st.works → b ≡ is_told s st (word_in c.args.words.now) c.args.entry.now)
    (λ b told s st repos had is alone.
    let os = drop 1 (lines_of c.owed-owed.result.now) in
    let first : IsFirst (Some o) (lines_of c.owed-owed.result.now) = subst (λ (z : Option OwedLine). IsFirst z (lines_of c.owed-owed.result.now)) (ap option_copied c.in-Some.is) c.first.ensures in
    told s st (word_in c.args.words.now) os repos is ∙ ap (λ (os : List OwedLine). effect_told s st (look_of st (word_in c.args.words.now) c.args.entry.now) (effect_of c.args.entry.now) os) (sym ((c.owed-owed.ensures.owed s st is).owed ∙ first)))
    c.pays_first.ensures

pub returns-in-None : goal.returns-in-None
returns-in-None c =
    IfOk-weaker c.other_told.result
    (λ b. (s : SetUp) (st : State) → s.repos ≡ c.args.repos.now → HadPaths s c.args.entry.now.kind c.args.paths.now → IsStateOf c.args.state.now s st → AreAlone st.works → b ≡ other_told s st (look_of st (word_in c.args.words.now) c.args.entry.now) (effect_of c.args.entry.now) (job_of c.args.entry.now.kind))
    (λ b. (s : SetUp) (st : State) → s.repos ≡ c.args.repos.now → HadPaths s c.args.entry.now.kind c.args.paths.now → IsStateOf c.args.state.now s st → AreAlone st.works → b ≡ is_told s st (word_in c.args.words.now) c.args.entry.now)
    (λ b told s st repos had is alone.
    let none : IsFirst None (lines_of c.owed-owed.result.now) = subst (λ (z : Option OwedLine). IsFirst z (lines_of c.owed-owed.result.now)) (ap option_copied c.in-None.is) c.first.ensures in
    told s st repos had is alone ∙ ap (λ (os : List OwedLine). effect_told s st (look_of st (word_in c.args.words.now) c.args.entry.now) (effect_of c.args.entry.now) os) (sym ((c.owed-owed.ensures.owed s st is).owed ∙ none)))
    c.other_told.ensures
