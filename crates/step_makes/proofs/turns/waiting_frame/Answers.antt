-- What the proof of `turns::waiting_frame` needs beside the tactics.
use Rattle.std.proofs.Common.{sym, ap, None, Some, Bool, Option, find, ◌∙◌, ◌&&◌, if◌then◌else◌}
use Rattle.run_data.specs.declared.entry.FrameView.{FrameView}
use Rattle.std.specs.Option.{option_to_list}
use Rattle.job_makes.specs.Turns.{turn_in}
use Rattle.node_model.specs.JobStep.{end_with}
use Rattle.node_model.specs.Jobs.{job_end}
use Rattle.node_model.specs.Ends.{may_take, takes_at}
use Rattle.step_makes.proofs.turns.waiting_frame.Goals as goal

pub returns-in-Some : goal.returns-in-Some
returns-in-Some c = λ s st.
    let x = c.args.turn.now in
    let t = turn_in x s st in
    let a = job_end t.w c.args.peer in
    let end = end_with t c.args.peer in
    let f = c.in-Some.frame in
    let p : FrameView → Bool = λ g. takes_at a g && may_take end g in
    c.if_waits.ensures
    ∙ (λ i. if c.waits_at.ensures i then Some f else None)
    ∙ (λ i. if takes_at (c.at-at.ensures.name i) f && may_take (c.at-at.ensures.was i) f then Some f else None)
    ∙ ap (λ (o : Option FrameView). find p (option_to_list o)) (sym c.in-Some.is)

pub returns-in-None : goal.returns-in-None
returns-in-None c = λ s st.
    let x = c.args.turn.now in
    let t = turn_in x s st in
    let a = job_end t.w c.args.peer in
    let end = end_with t c.args.peer in
    let p : FrameView → Bool = λ g. takes_at a g && may_take end g in
    ap (λ (o : Option FrameView). find p (option_to_list o)) (sym c.in-None.is)
