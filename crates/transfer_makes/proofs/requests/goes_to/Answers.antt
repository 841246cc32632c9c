-- What the proof of `requests::goes_to` needs beside the tactics.
use Rattle.std.proofs.Common.{◌≡◌, ℕ, Bool, true, false, None, if◌then◌else◌, [], ◌∷◌, sym, ap, ◌∙◌}
use Rattle.node_model.specs.SetUp.{SetUp}
use Rattle.node_model.specs.State.{State}
use Rattle.std.proofs.lemmas.Result.{IfOk-weaker}
use Rattle.node_model.specs.JobStep.{end_with, sends_to, talk}
use Rattle.node_model.specs.Requests.{asks, goes_to}
use Rattle.run_data.specs.declared.entry.FrameText.TheVariants.{Opening}
use Rattle.step_judging.specs.Same.{same_effect}
use Rattle.step_judging.specs.Rules.{effect_of}
use Rattle.job_makes.specs.Turns.{turn_in}
use Rattle.state_jobs.specs.Phases.{part_of}
use Rattle.transfer_makes.proofs.requests.goes_to.Goals as goal

pub returns-then-is_open : goal.returns-then-is_open
returns-then-is_open c =
    let x = c.args.turn.now in
    let part = part_of x.work.now.part in
    IfOk-weaker c.asks.result
    (λ b. (s : SetUp) (st : State) (version : ℕ) → b ≡ same_effect (asks (turn_in x s st) version None c.args.peer part) (effect_of x.told.now))
    (λ b. (s : SetUp) (st : State) → b ≡ same_effect (goes_to (turn_in x s st) c.args.peer) (effect_of x.told.now))
    (λ b told s st.
    let t = turn_in x s st in
    let here : (end_with t c.args.peer).opened ≡ true = sym (c.is_open.ensures s st) ∙ c.if-is_open.true in
    told s st t.w.version ∙ ap (λ (o : Bool). same_effect (if o then asks t t.w.version None c.args.peer part else sends_to t (talk t) None c.args.peer (Opening ∷ [])) (effect_of x.told.now)) (sym here))
    c.asks.ensures

pub returns-else-is_open : goal.returns-else-is_open
returns-else-is_open c = λ s st.
    let x = c.args.turn.now in
    let t = turn_in x s st in
    let shut : (end_with t c.args.peer).opened ≡ false = sym (c.is_open.ensures s st) ∙ c.if-is_open.false in
    c.opens_to.ensures s st
    ∙ ap (λ (o : Bool). same_effect (if o then asks t t.w.version None c.args.peer (part_of x.work.now.part) else sends_to t (talk t) None c.args.peer (Opening ∷ [])) (effect_of x.told.now)) (sym shut)
