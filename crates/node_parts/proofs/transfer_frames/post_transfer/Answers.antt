-- What is sent is what the parcels have.
use Rattle.std.proofs.Common.{List, sym, subst}
use Rattle.std.specs.Prelude.{flat_map}
use Rattle.transfer_turns.specs.declared.parcels.Parcel.{Parcel}
use Rattle.node_parts.specs.Sending.{AreAmong, IsPosted, PostsOnly, frames_of_transfer, pieces_at}
use Rattle.node_parts.proofs.Posting.{sent_well}
use Rattle.node_parts.proofs.transfer_frames.post_transfer.Goals as goal

pub returns-clause-posted : goal.returns-clause-posted
returns-clause-posted c = λ was taken before.
    let parts = c.into_parts-parcels in
    c.post_all.ensures.posted was taken (subst (IsPosted was taken c.args.ends.now) (sym parts.ensures.room.empty) before)

pub returns-clause-well : goal.returns-clause-well
returns-clause-well c = λ was taken before quiet placed.
    let parts = c.into_parts-parcels in
    sent_well was taken (frames_of_transfer was c.args.slot) parts.result.1.items c.post_all.new.sent.items parts.ensures.room.empty parts.result.0.items c.args.sends.items parts.ensures.parcels
    (c.post_all.ensures.well was taken (subst (IsPosted was taken c.args.ends.now) (sym parts.ensures.room.empty) before) quiet) placed

pub returns-clause-posts : goal.returns-clause-posts
returns-clause-posts c = λ answers kind was taken among before.
    let parts = c.into_parts-parcels in
    c.post_all.ensures.posts answers kind was taken (subst (λ (ps : List Parcel). AreAmong (flat_map (pieces_at c.args.slot) ps) answers) (sym parts.ensures.parcels) among)
    (subst (PostsOnly answers c.args.stamp kind was c.args.ends.now taken) (sym parts.ensures.room.empty) before)
