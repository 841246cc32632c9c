-- What the proof of `knowing::Knowing::asks_copy` needs beside the tactics.
use Rattle.std.proofs.Common.{◌≡◌, Bool, sym, subst, ◌∙◌}
use Rattle.std.specs.Prelude.{IfOk}
use Rattle.std.specs.Option.{option_copied}
use Rattle.drop_proof.specs.declared.rule.Side.{Side}
use Rattle.node_model.specs.SetUp.{SetUp}
use Rattle.node_model.specs.State.{State}
use Rattle.step_judging.specs.Rules.{effect_of}
use Rattle.step_judging.specs.Same.{same_effect}
use Rattle.drop_makes.specs.Knowings.{drop_in}
use Rattle.node_model.specs.DropStep.{asks_copy}
use Rattle.drop_makes.proofs.knowing.Knowing.asks_copy.Goals as goal

pub returns-in-Local : goal.returns-in-Local
returns-in-Local c =
    let k = c.args.self.now in
    subst (λ (x : Side). IfOk c.asks_lock.result (λ (b : Bool). (s : SetUp) (st : State) → b ≡ same_effect (asks_copy (drop_in k.turn.now k.logs.now s st) c.args.version (option_copied c.args.taken) c.args.peer x) (effect_of k.turn.now.told.now)))
    (sym c.in-Local.is ∙ c.side.ensures) c.asks_lock.ensures

pub returns-in-Remote : goal.returns-in-Remote
returns-in-Remote c =
    let k = c.args.self.now in
    subst (λ (x : Side). IfOk c.asks_far.result (λ (b : Bool). (s : SetUp) (st : State) → b ≡ same_effect (asks_copy (drop_in k.turn.now k.logs.now s st) c.args.version (option_copied c.args.taken) c.args.peer x) (effect_of k.turn.now.told.now)))
    (sym c.in-Remote.is ∙ c.side.ensures) c.asks_far.ensures
