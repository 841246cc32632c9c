-- A parcel whose frame has its place is for a repository that is there.
use Rattle.std.proofs.Common.{◌<◌, arith}
use Rattle.drop_phases.specs.Working.{end_in}
use Rattle.node_parts.specs.Sending.{pieces_at}
use Rattle.node_parts.proofs.Posting.{low_peer, transfer_there}
use Rattle.node_parts.proofs.Posts.{with_still}
use Rattle.node_parts.proofs.transfer_frames.post_to.Goals as goal

pub returns-else-parcel-repositories-clause-well : goal.returns-else-parcel-repositories-clause-well
returns-else-parcel-repositories-clause-well c = λ was taken before quiet all.
    let e = c.room_permits_frames.ensures in
    let there = transfer_there was taken c.args.slot c.args.sent.now.items c.args.sent.now.items (record { opening = e.opening; line = e.line; bytes = e.bytes; closing = e.closing }) quiet c.args.ends.now before c.args.parcel all in
    let low : c.args.parcel.peer < c.args.repositories = low_peer c.args.ends.now c.args.repositories (end_in c.args.slot c.args.parcel.peer) c.requires.links there in
    absurd (omega (arith, low, c.if-parcel-repositories.false))

pub returns-else-parcel-repositories-clause-posts : goal.returns-else-parcel-repositories-clause-posts
returns-else-parcel-repositories-clause-posts c = with_still (pieces_at c.args.slot c.args.parcel) c.args.stamp c.args.ends.now c.args.sent.now.items
