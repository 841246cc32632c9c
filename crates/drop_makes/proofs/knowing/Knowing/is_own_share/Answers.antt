-- What the proof of `knowing::Knowing::is_own_share` needs beside the tactics.
use Rattle.std.proofs.Common.{Bool, ◌+◌, sym, ap, ◌∙◌}
use Rattle.run_data.specs.declared.entry.EntryKind.TheVariants.{Share}
use Rattle.node_model.specs.Clocks.{hold_time}
use Rattle.node_model.specs.DropStep.{own_share}
use Rattle.node_model.specs.JobStep.{by_me, clock_of, talk}
use Rattle.step_judging.specs.Same.{same_kind}
use Rattle.drop_makes.specs.Knowings.{drop_in}
use Rattle.drop_makes.proofs.knowing.Knowing.is_own_share.Goals as goal

pub returns-then-not-here : goal.returns-then-not-here
returns-then-not-here c = λ s st.
    let k = c.args.self.now in
    let t = drop_in k.turn.now k.logs.now s st in
    c.talks.ensures s st
    ∙ ap (λ (b : Bool). same_kind (own_share t.number (clock_of t + hold_time) t.w.number t.w.what.key (talk t) (by_me t) b c.args.bar) k.turn.now.told.now.kind) (sym c.if-not-here.true)

pub returns-in-None : goal.returns-in-None
returns-in-None c = λ s st.
    let k = c.args.self.now in
    let t = drop_in k.turn.now k.logs.now s st in
    c.is_share.ensures
    ∙ (λ i. same_kind (Share (c.number.ensures s st i) (c.clock-clock.ensures.value i + hold_time) (c.by_me.ensures s st i) (c.key.ensures s st i)) k.turn.now.told.now.kind)
    ∙ (λ i. same_kind (own_share t.number (clock_of t + hold_time) t.w.number t.w.what.key (talk t) (by_me t) (sym c.if-not-here.false i) (sym c.in-None.is i)) k.turn.now.told.now.kind)

pub returns-in-Some : goal.returns-in-Some
returns-in-Some c = λ s st.
    let k = c.args.self.now in
    let t = drop_in k.turn.now k.logs.now s st in
    c.talks-in-Some.ensures s st
    ∙ (λ i. same_kind (own_share t.number (clock_of t + hold_time) t.w.number t.w.what.key (talk t) (by_me t) (sym c.if-not-here.false i) (sym c.in-Some.is i)) k.turn.now.told.now.kind)
