-- What is sent is what the definitions send.
use Rattle.std.proofs.Common.{[], sym, ap, subst, ◌∙◌}
use Rattle.node_model.specs.Ends.{sent_at}
use Rattle.node_ends.specs.Going.{AreAfter}
use Rattle.node_parts.specs.Sending.{PostsOnly, pieces_in}
use Rattle.node_parts.proofs.Posts.{with_all}
use Rattle.node_parts.proofs.acting.act.Goals as goal

pub returns-clause-sent : goal.returns-clause-sent
returns-clause-sent c = λ quiet well.
    c.from_vec.ensures ∙ c.post_sent-listed.ensures.well c.args.ends.now c.take_from-taken.result c.take_from-taken.ensures.posted quiet well

pub returns-clause-after : goal.returns-clause-after
returns-clause-after c =
    subst (AreAfter c.args.ends.now c.post_sent-listed.new.ends c.take_from-taken.result) (sym c.from_vec.ensures)
    ((c.post_sent-listed.ensures.posted c.args.ends.now c.take_from-taken.result c.take_from-taken.ensures.posted).after)

pub returns-clause-room : goal.returns-clause-room
returns-clause-room c = λ quiet a room none.
    (c.post_sent-listed.ensures.posted c.args.ends.now c.take_from-taken.result c.take_from-taken.ensures.posted).room quiet a room (ap (sent_at a) (sym c.from_vec.ensures) ∙ none)

pub returns-clause-posts : goal.returns-clause-posts
returns-clause-posts c =
    let kind = c.args.acted.kind in
    let was = c.args.ends.now in
    let taken = c.take_from-taken.result in
    let pieces = pieces_in c.args.acted.slot c.args.acted.sent in
    subst (PostsOnly pieces c.args.stamp kind was c.post_sent-listed.new.ends taken) (sym c.from_vec.ensures)
    (with_all pieces c.args.stamp kind c.take_from-taken.new.ends c.post_sent-listed.new.ends was taken [] c.post_sent-listed.result.items c.post_sent-listed.ensures.posts (c.take_from-taken.ensures.posts pieces c.args.stamp kind))
