-- What holds at each turn of the loops of `transfer_frames::post_all`.
use Rattle.std.proofs.Common.{◌≡◌, ◌+◌, ◌≤◌, List, Option, length, vec_len, vec_capacity}
use Rattle.std.specs.Prelude.{flat_map}
use Rattle.std.specs.Vec.Iter.{into_iter_items}
use Rattle.run_data.specs.declared.entry.FrameView.{FrameView}
use Rattle.link_ring.specs.Ends.{EndView}
use Rattle.node_ends.specs.Ends.{end_at}
use Rattle.node_ends.specs.Joined.{StayPaired}
use Rattle.transfer_turns.specs.Parcels.{frames_of}
use Rattle.job_frames.specs.Sending.{TakesNoOpening}
use Rattle.node_parts.specs.Sending.{AreAmong, ArePlaced, IsPosted, PostsWith, frames_of_transfer, pieces_at}
use Rattle.node_parts.proofs.Posting.{GoesWell}
use Rattle.node_parts.proofs.transfer_frames.post_all.Given as goal

-- what was sent, with the frames of the parcels that are left, is all, and there is room for them; their pieces are among those of all
abbrev pub invariant-loop-parcel : goal.invariant-loop-parcel
invariant-loop-parcel l = record {
  posted : (was : List EndView) (taken : Option FrameView) → IsPosted was taken l.fn.ends l.fn.sent.items → IsPosted was taken l.ends l.sent.items;
  posts : PostsWith (flat_map (pieces_at l.slot) l.fn.parcels.items) l.stamp l.fn.ends l.ends l.fn.sent.items l.sent.items;
  among : AreAmong (flat_map (pieces_at l.slot) (into_iter_items l.parcel-iterator)) (flat_map (pieces_at l.slot) l.fn.parcels.items);
  well : (was : List EndView) (taken : Option FrameView) → IsPosted was taken l.fn.ends l.fn.sent.items → TakesNoOpening taken → ArePlaced was taken l.fn.sent.items (frames_of (end_at was) l.slot l.fn.parcels.items)
      → GoesWell was taken (frames_of_transfer was l.slot) l.fn.sent.items l.fn.parcels.items l.sent.items (into_iter_items l.parcel-iterator);
  room : vec_len l.sent + length (into_iter_items l.parcel-iterator) ≤ vec_capacity l.sent;
  paired : StayPaired l.fn.ends l.ends;
  count : length l.ends ≡ length l.fn.ends;
}
