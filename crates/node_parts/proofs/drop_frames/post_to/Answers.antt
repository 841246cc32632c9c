-- A parcel whose frames have their places is for a repository that is there.
use Rattle.std.proofs.Common.{◌<◌, arith}
use Rattle.drop_phases.specs.Working.{end_in}
use Rattle.node_parts.proofs.Posting.{drop_there, low_peer}
use Rattle.node_parts.proofs.drop_frames.post_to.Goals as goal

pub returns-else-parcel-repositories-clause-well : goal.returns-else-parcel-repositories-clause-well
returns-else-parcel-repositories-clause-well c = λ was taken before quiet all.
    let e = c.room_permits_frames.ensures in
    let there = drop_there was taken c.args.slot c.args.sent.now.items c.args.sent.now.items (record { opening = e.opening; line = e.line; bytes = e.bytes; closing = e.closing }) quiet c.args.ends.now before c.args.parcel all in
    let low : c.args.parcel.peer < c.args.repositories = low_peer c.args.ends.now c.args.repositories (end_in c.args.slot c.args.parcel.peer) c.requires.links there in
    absurd (omega (arith, low, c.if-parcel-repositories.false))
