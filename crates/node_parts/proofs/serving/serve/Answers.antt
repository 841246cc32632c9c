-- What the proof of `serving::serve` needs beside the tactics.
use Rattle.std.proofs.Common.{List, Option, sym, ap, subst, ◌∙◌}
use Rattle.run_data.specs.declared.entry.FrameView.{FrameView}
use Rattle.node_ends.specs.Going.{AreAfter}
use Rattle.node_sessions.specs.Serving.{end_by}
use Rattle.node_sessions.specs.Words.{word_to}
use Rattle.node_parts.specs.Sending.{PostsOnly, answers_at}
use Rattle.node_parts.proofs.serving.serve.Goals as goal

pub returns-clause-after : goal.returns-clause-after
returns-clause-after c =
    subst (λ (fs : List FrameView). AreAfter c.args.ends.now c.close_if-sent.new.ends c.take_if-taken.result fs) (sym c.from_vec.ensures)
    (c.close_if-sent.ensures.after c.args.ends.now c.take_if-taken.result (c.reply_with-replied.ensures.after c.args.ends.now c.take_if-taken.result c.take_if-taken.ensures.after))

pub returns-clause-posts : goal.returns-clause-posts
returns-clause-posts c =
    let kind = c.args.served.kind in
    let answers = answers_at (end_by c.args.served) c.args.served.reply in
    let was = c.args.ends.now in
    let taken = c.take_if-taken.result in
    subst (λ (fs : List FrameView). PostsOnly answers c.args.stamp kind was c.close_if-sent.new.ends taken fs) (sym c.from_vec.ensures)
    (c.close_if-sent.ensures.posts answers kind was taken (c.reply_with-replied.ensures.posts kind was taken (c.requires.serves.word ∙ ap (λ (o : Option FrameView). word_to o kind) (sym c.take_if-taken.ensures.taken)) (c.take_if-taken.ensures.posts answers c.args.stamp kind)))
