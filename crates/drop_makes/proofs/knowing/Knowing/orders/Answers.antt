-- What the proof of `knowing::Knowing::orders` needs beside the tactics.
use Rattle.std.proofs.Common.{ℕ, [], ◌∷◌, ap, ◌∙◌}
use Rattle.p2p_wire.specs.Messages.{order_of, text_of}
use Rattle.run_data.specs.declared.entry.EntryKind.TheVariants.{Order}
use Rattle.run_data.specs.declared.entry.FrameText.TheVariants.{Line}
use Rattle.node_model.specs.DropStep.{need_now, target}
use Rattle.node_model.specs.Ends.{frames}
use Rattle.node_model.specs.Jobs.{job_end}
use Rattle.node_model.specs.JobStep.{end_with, key_of}
use Rattle.step_judging.specs.Same.{same_frames, same_kind}
use Rattle.drop_makes.specs.Knowings.{drop_in}
use Rattle.drop_makes.proofs.knowing.Knowing.orders.Goals as goal

pub returns : goal.returns
returns c = λ s st.
    let k = c.args.self.now in
    let t = drop_in k.turn.now k.logs.now s st in
    let e = k.turn.now.told.now in
    let bodies = Line (text_of (order_of c.args.deadline (key_of t))) ∷ [] in
    c.sends.ensures (Order t.w.number (target t) c.args.deadline (need_now t) (key_of t)) (frames (job_end t.w (target t)) (end_with t (target t)) bodies)
    (c.is_order-is.ensures ∙ (λ i. same_kind (Order t.w.number (c.target-target.ensures i) c.args.deadline (c.need-need.ensures i) (c.key-key.ensures s st i)) e.kind))
    (c.says_order-said.ensures
    ∙ (λ i. same_frames (frames (c.at.ensures.name i) (c.at.ensures.was i) (Line (text_of (order_of c.args.deadline (c.key-key.ensures s st i))) ∷ [])) (c.as_slice.ensures i))
    ∙ ap (λ (p : ℕ). same_frames (frames (job_end t.w p) (end_with t p) bodies) e.sent) c.target-target.ensures)
