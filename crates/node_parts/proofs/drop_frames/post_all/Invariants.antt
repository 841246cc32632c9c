-- What holds at each turn of the loops of `drop_frames::post_all`.
use Rattle.std.proofs.Common.{◌≡◌, ◌+◌, ◌*◌, ◌≤◌, List, Option, length, vec_len, vec_capacity}
use Rattle.std.specs.Vec.Iter.{into_iter_items}
use Rattle.run_data.specs.declared.entry.FrameView.{FrameView}
use Rattle.link_ring.specs.Ends.{EndView}
use Rattle.node_ends.specs.Ends.{end_at}
use Rattle.node_ends.specs.Joined.{StayPaired}
use Rattle.drop_phases.specs.Working.{frames_of}
use Rattle.job_frames.specs.Sending.{TakesNoOpening}
use Rattle.node_parts.specs.Sending.{ArePlaced, IsPosted, PostsOn, frames_of_drop}
use Rattle.node_parts.proofs.Posting.{GoesWell}
use Rattle.node_parts.proofs.drop_frames.post_all.Given as goal

-- what was sent, with the frames of the parcels that are left, is all, and there is room for them
abbrev pub invariant-loop-parcel : goal.invariant-loop-parcel
invariant-loop-parcel l = record {
  posted : (was : List EndView) (taken : Option FrameView) → IsPosted was taken l.fn.ends l.fn.sent.items → IsPosted was taken l.ends l.sent.items;
  posts : PostsOn l.stamp l.fn.ends l.ends l.fn.sent.items l.sent.items;
  well : (was : List EndView) (taken : Option FrameView) → IsPosted was taken l.fn.ends l.fn.sent.items → TakesNoOpening taken → ArePlaced was taken l.fn.sent.items (frames_of (end_at was) l.slot l.fn.parcels.items)
      → GoesWell was taken (frames_of_drop was l.slot) l.fn.sent.items l.fn.parcels.items l.sent.items (into_iter_items l.parcel-iterator);
  room : vec_len l.sent + 2 * length (into_iter_items l.parcel-iterator) ≤ vec_capacity l.sent;
  paired : StayPaired l.fn.ends l.ends;
  count : length l.ends ≡ length l.fn.ends;
}
