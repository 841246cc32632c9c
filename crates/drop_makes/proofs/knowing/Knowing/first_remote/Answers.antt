-- What the proof of `knowing::Knowing::first_remote` needs beside the tactics.
use Rattle.std.proofs.Common.{◌≡◌, ℕ, Bool, List, Option, sym, ap, subst, ◌∙◌}
use Rattle.std.specs.Prelude.{IfOk}
use Rattle.std.specs.Option.{option_copied}
use Rattle.node_model.specs.DropStep.{first_remote, tries_own}
use Rattle.node_model.specs.SetUp.{SetUp}
use Rattle.node_model.specs.State.{State}
use Rattle.step_judging.specs.Rules.{effect_of}
use Rattle.step_judging.specs.Same.{same_effect}
use Rattle.drop_makes.specs.Knowings.{drop_in}
use Rattle.drop_makes.proofs.knowing.Knowing.first_remote.Goals as goal

pub returns-in-Some : goal.returns-in-Some
returns-in-Some c =
    let k = c.args.self.now in
    subst (λ (r : Option (List ℕ)). IfOk c.is_required.result (λ (b : Bool). (s : SetUp) (st : State) → b ≡ same_effect (first_remote (drop_in k.turn.now k.logs.now s st) r) (effect_of k.turn.now.told.now)))
    (sym (ap option_copied c.in-Some.is) ∙ c.required.ensures) c.is_required.ensures

pub returns-in-None : goal.returns-in-None
returns-in-None c = λ s st.
    let k = c.args.self.now in
    let t = drop_in k.turn.now k.logs.now s st in
    let told = effect_of k.turn.now.told.now in
    c.tries_own.ensures s st ∙ (λ i. same_effect (tries_own t (c.standing.ensures i)) told)
    ∙ ap (λ (r : Option (List ℕ)). same_effect (first_remote t r) told) (sym (ap option_copied c.in-None.is) ∙ c.required.ensures)
