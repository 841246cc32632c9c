-- What the proof of `knowing::Knowing::shares` needs beside the tactics.
use Rattle.std.proofs.Common.{◌+◌, None, ◌∙◌}
use Rattle.node_model.specs.Calls.{to_hold}
use Rattle.node_model.specs.Clocks.{hold_time}
use Rattle.node_model.specs.DropStep.{own_share}
use Rattle.node_model.specs.JobStep.{bar_there, by_me, clock_of, is_there, key_of, quietly, talk}
use Rattle.node_model.specs.Look.{failing_call}
use Rattle.step_judging.specs.Same.{same_kind}
use Rattle.drop_makes.specs.Knowings.{drop_in}
use Rattle.drop_makes.proofs.knowing.Knowing.shares.Goals as goal

pub returns : goal.returns
returns c = λ s st.
    let k = c.args.self.now in
    let t = drop_in k.turn.now k.logs.now s st in
    let kind = own_share t.number (clock_of t + hold_time) t.w.number (key_of t) (talk t) (by_me t) (is_there t) (bar_there t) in
    c.attempts.ensures s st (to_hold (is_there t) (bar_there t)) (quietly kind None)
    (c.fails_to_hold.ensures s st ∙ (λ i. failing_call t.look.fails (to_hold (c.is_there-here.ensures s st i) (c.bar_there-bar.ensures s st i))))
    (c.quietly-made.ensures kind (c.is_own_share.ensures s st
    ∙ (λ i. same_kind (own_share t.number (clock_of t + hold_time) t.w.number (key_of t) (talk t) (by_me t) (c.is_there-here.ensures s st i) (c.bar_there-bar.ensures s st i)) k.turn.now.told.now.kind)))
