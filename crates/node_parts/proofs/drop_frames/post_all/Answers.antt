-- The parcels are sent in order.
use Rattle.std.proofs.Common.{◌∙◌, sym, subst, arith}
use Rattle.std.proofs.lemmas.List.{nil_from_length}
use Rattle.std.specs.Vec.Iter.{into_iter_items}
use Rattle.node_crash.proofs.Ends.{stay_on, stay_same}
use Rattle.node_parts.specs.Sending.{frames_of_drop}
use Rattle.node_parts.proofs.Posting.{GoesWell, all_well, goes_first, goes_on_well, goes_placed}
use Rattle.node_parts.proofs.Posts.{posts_on, posts_still}
use Rattle.node_parts.proofs.drop_frames.post_all.Goals as goal

pub loop-parcel-init : goal.loop-parcel-init
loop-parcel-init c = record {
  posted = λ was taken before. before;
  posts = posts_still c.args.stamp c.args.ends.now c.args.sent.now.items;
  well = λ was taken before quiet all. subst (GoesWell was taken (frames_of_drop was c.args.slot) c.args.sent.now.items c.args.parcels.items c.args.sent.now.items) (sym c.into_iter-parcel-iterator.ensures.into_iter_gives.0) (goes_first was taken (frames_of_drop was c.args.slot) c.args.sent.now.items c.args.parcels.items all);
  room = grind (arith, c.requires.room, c.into_iter-parcel-iterator.ensures.into_iter_gives.0);
  paired = stay_same c.args.ends.now;
  count = cc;
}

pub loop-parcel-preserved : goal.loop-parcel-preserved
loop-parcel-preserved c =
    let h = c.loop-parcel.invariant in
    let left = into_iter_items c.next.new.self in record {
      posted = λ was taken before. c.post_to.ensures.posted was taken (h.posted was taken before);
      posts = posts_on c.args.stamp c.args.ends.now c.loop-parcel.ends c.post_to.new.ends c.args.sent.now.items c.loop-parcel.sent.items c.post_to.new.sent.items h.posts c.post_to.ensures.posts;
      well = λ was taken before quiet all.
          let goes = subst (GoesWell was taken (frames_of_drop was c.args.slot) c.args.sent.now.items c.args.parcels.items c.loop-parcel.sent.items) c.in-Some.ensures.steps.0 (h.well was taken before quiet all) in
          goes_on_well was taken (frames_of_drop was c.args.slot) c.args.sent.now.items c.args.parcels.items c.loop-parcel.sent.items c.in-Some.parcel left c.post_to.new.sent.items goes
          (c.post_to.ensures.well was taken (h.posted was taken before) quiet (goes_placed was taken (frames_of_drop was c.args.slot) c.args.sent.now.items c.args.parcels.items c.loop-parcel.sent.items c.in-Some.parcel left goes));
      room = grind (arith, c.post_to.ensures.len, c.post_to.ensures.capacity, h.room, c.in-Some.ensures.steps.0);
      paired = stay_on c.args.ends.now c.loop-parcel.ends c.post_to.new.ends h.paired c.post_to.ensures.paired;
      count = c.post_to.ensures.count ∙ h.count;
    }

pub returns-clause-well : goal.returns-clause-well
returns-clause-well c = λ was taken before quiet all.
    let left = c.loop-parcel.parcel-iterator in
    all_well was taken (frames_of_drop was c.args.slot) c.args.sent.now.items c.args.parcels.items c.loop-parcel.sent.items (into_iter_items left) (nil_from_length (into_iter_items left) (sym left.rest.ok.0 ∙ c.in-None.ensures.steps.0))
    (c.loop-parcel.invariant.well was taken before quiet all)
