-- A frame that isn't an opening leaves the room that there was.
use Rattle.std.proofs.Common.{[], Option, refl, sym, subst}
use Rattle.run_data.specs.declared.entry.FrameView.{FrameView}
use Rattle.drop_phases.specs.Working.{end_in}
use Rattle.node_parts.specs.Sending.{PostsNothing}
use Rattle.node_parts.proofs.Posting.{taken_posted}
use Rattle.node_parts.proofs.Posts.{posts_nothing}
use Rattle.node_parts.proofs.sending.take_from.Goals as goal

pub returns-clause-posted : goal.returns-clause-posted
returns-clause-posted c =
    taken_posted c.args.ends.now c.take.new.ends (end_in c.args.slot c.in_ok-peer.peer) c.take.result (c.requires.waits c.in_ok-peer.peer c.in_ok-peer.was).0 (c.take.ensures.line []) c.take.ensures.state c.take.ensures.others c.take.ensures.after

pub returns-in_err-peer-clause-posts : goal.returns-in_err-peer-clause-posts
returns-in_err-peer-clause-posts c =
    subst (λ (o : Option FrameView). PostsNothing c.args.ends.now c.args.ends.now o) (sym c.from_residual.ensures) (posts_nothing c.args.ends.now c.args.ends.now refl)
