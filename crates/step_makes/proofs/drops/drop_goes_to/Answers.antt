-- What the proof of `drops::drop_goes_to` needs beside the tactics.
use Rattle.std.proofs.Common.{sym, ap, true, false, None, Bool, ◌∙◌, ◌≡◌, ◌∷◌, if◌then◌else◌, []}
use Rattle.run_data.specs.declared.entry.FrameText.TheVariants.{Opening}
use Rattle.step_judging.specs.Same.{same_effect}
use Rattle.step_judging.specs.Rules.{effect_of}
use Rattle.drop_makes.specs.Knowings.{drop_in}
use Rattle.state_jobs.specs.Phases.{part_of}
use Rattle.node_model.specs.SetUp.{SetUp}
use Rattle.node_model.specs.State.{State}
use Rattle.std.proofs.lemmas.Result.{IfOk-weaker}
use Rattle.node_model.specs.JobStep.{sends_to, talk, end_with}
use Rattle.node_model.specs.DropStep.{asks_copy}
use Rattle.node_model.specs.Jobs.{side_of}
use Rattle.node_model.specs.Requests.{asks, goes_to}
use Rattle.step_makes.proofs.drops.drop_goes_to.Goals as goal

pub returns-then-is_open : goal.returns-then-is_open
returns-then-is_open c =
    let k = c.args.known.now in
    let x = k.turn.now in
    IfOk-weaker c.asks_copy.result
    (λ b. (s : SetUp) (st : State) → b ≡ same_effect (asks_copy (drop_in x k.logs.now s st) x.work.now.version None c.args.peer (side_of (drop_in x k.logs.now s st).w)) (effect_of x.told.now))
    (λ b. (s : SetUp) (st : State) → b ≡ same_effect (goes_to (drop_in x k.logs.now s st) c.args.peer) (effect_of x.told.now))
    (λ b told s st.
    let d = drop_in x k.logs.now s st in
    let here : (end_with d c.args.peer).opened ≡ true = sym (c.is_open.ensures s st) ∙ c.if-is_open.true in
    told s st
    ∙ (λ i. same_effect (asks d d.w.version None c.args.peer (part_of (sym c.requires i))) (effect_of x.told.now))
    ∙ ap (λ (o : Bool). same_effect (if o then asks d d.w.version None c.args.peer (part_of x.work.now.part) else sends_to d (talk d) None c.args.peer (Opening ∷ [])) (effect_of x.told.now)) (sym here))
    c.asks_copy.ensures

pub returns-else-is_open : goal.returns-else-is_open
returns-else-is_open c = λ s st.
    let k = c.args.known.now in
    let x = k.turn.now in
    let d = drop_in x k.logs.now s st in
    let shut : (end_with d c.args.peer).opened ≡ false = sym (c.is_open.ensures s st) ∙ c.if-is_open.false in
    c.opens_to.ensures s st
    ∙ ap (λ (o : Bool). same_effect (if o then asks d d.w.version None c.args.peer (part_of x.work.now.part) else sends_to d (talk d) None c.args.peer (Opening ∷ [])) (effect_of x.told.now)) (sym shut)
