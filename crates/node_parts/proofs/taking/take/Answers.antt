-- What becomes of the link of the end.
use Rattle.std.proofs.Common.{Some, sym, subst}
use Rattle.run_data.specs.declared.entry.FrameView.{FrameView}
use Rattle.node_ends.specs.Ends.{name_of}
use Rattle.node_parts.specs.Sending.{PostsNothing}
use Rattle.node_parts.proofs.Posts.{posts_taken}
use Rattle.node_parts.proofs.taking.take.Goals as goal

pub returns-clause-posts : goal.returns-clause-posts
returns-clause-posts c =
    subst (λ (f : FrameView). PostsNothing c.args.ends.now c.take.new.self (Some f)) (sym c.view_of.ensures)
    (posts_taken c.args.ends.now c.take.new.self (name_of c.args.id) c.take.result c.take.ensures.frame c.take.ensures.link c.take.ensures.others c.take.ensures.count)
