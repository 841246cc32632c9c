-- What the proof of `serving::close_if` needs beside the tactics.
use Rattle.std.proofs.Common.{None, refl, sym, subst}
use Rattle.node_ends.specs.declared.sending.Sending.TheVariants.{Close}
use Rattle.node_ends.specs.Ends.{name_of}
use Rattle.node_parts.specs.Sending.{PostsOnly}
use Rattle.node_parts.proofs.Posts.{posts_word}
use Rattle.node_parts.proofs.serving.close_if.Goals as goal

pub returns-then-close-clause-posts : goal.returns-then-close-clause-posts
returns-then-close-clause-posts c = λ answers kind was taken before.
    let e = c.send.ensures in
    subst (PostsOnly answers c.args.stamp kind was c.send.new.self taken) (sym c.push_reserved.ensures.items)
    (posts_word answers c.args.stamp kind was c.args.ends.now taken c.args.sent.items before c.send.new.self (name_of c.args.id) Close (λ bytes is. absurd cc) None refl c.send.result
    (record { view = e.view; state = e.state; link = e.link; others = e.others; count = e.count; after = e.after }))
