-- What is sent is listed.
use Rattle.std.proofs.Common.{is_some, sym, ap, subst, ◌∙◌}
use Rattle.node_ends.specs.Ends.{name_of}
use Rattle.node_parts.specs.Sending.{IsPosted, PostsOnly}
use Rattle.node_parts.proofs.Posting.{listed_by, posted_by}
use Rattle.node_parts.proofs.Posts.{posts_by}
use Rattle.node_parts.proofs.sending.post.Goals as goal

pub returns-clause-posted : goal.returns-clause-posted
returns-clause-posted c = λ was taken before.
    subst (IsPosted was taken c.post-frame.new.self) (sym c.list.ensures.items)
    (posted_by was c.args.ends.now taken c.args.sent.now.items before c.post-frame.new.self (name_of c.args.id) c.args.stamp c.args.said c.post-frame.result c.post-frame.ensures.gives c.post-frame.ensures.sent c.post-frame.ensures.kept)

pub returns-clause-well : goal.returns-clause-well
returns-clause-well c = λ was taken f before quiet of place.
    let e = c.room_permits_frames.ensures in
    c.list.ensures.items
    ∙ listed_by was c.args.ends.now taken c.args.sent.now.items before c.post-frame.new.self (name_of c.args.id) c.args.stamp c.args.said c.post-frame.result c.post-frame.ensures.gives c.post-frame.ensures.sent
    (record { opening = e.opening; line = e.line; bytes = e.bytes; closing = e.closing }) quiet f of place

pub returns-clause-there : goal.returns-clause-there
returns-clause-there c = c.post-frame.ensures.there (name_of c.args.id) ∙ c.requires.there

pub returns-clause-posts : goal.returns-clause-posts
returns-clause-posts c = λ answers kind was taken before.
    subst (PostsOnly answers c.args.stamp kind was c.post-frame.new.self taken) (sym c.list.ensures.items)
    (posts_by answers c.args.stamp kind was c.args.ends.now taken c.args.sent.now.items before c.post-frame.new.self (name_of c.args.id) c.args.said c.requires.client c.requires.line c.post-frame.result c.post-frame.ensures.sent
    (λ none. (c.post-frame.ensures.kept (sym c.post-frame.ensures.gives ∙ ap is_some none)).1))
