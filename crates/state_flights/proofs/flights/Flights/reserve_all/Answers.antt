-- What the proof of `flights::Flights::reserve_all` needs beside the tactics.
use Rattle.std.proofs.Common.{◌+◌, ◌≡◌, ◌≤◌, ◌∷◌, ◌++◌, [], List, length, take, sym, ap, subst, ◌∙◌, arith}
use Rattle.std.proofs.lemmas.List.{take_more, take_all}
use Rattle.annex_base.proofs.Lists.{Each-push}
use Rattle.run_data.specs.declared.entry.FrameView.{FrameView}
use Rattle.state_flights.specs.Flights.{HasRoomFor, room_on}
use Rattle.state_flights.specs.Ways.{way_sent}
use Rattle.state_flights.proofs.WayLemmas.{more_room}
use Rattle.state_flights.proofs.flights.Flights.reserve_all.Goals as goal

pub loop-frame-preserved : goal.loop-frame-preserved
loop-frame-preserved c =
    let r = c.args.repo in
    let frames = c.args.frames.now in
    let i = c.loop-frame.frame-index in
    let f = c.frame-item.result in
    let was = c.loop-frame.self in
    let now = c.reserve.new.self in
    let before = more_room r (length frames) (take i frames) was now c.reserve.ensures.more c.loop-frame.invariant.room in
    record {
      room = subst (λ (fs : List FrameView). HasRoomFor r fs (length frames) now) (sym (take_more frames i f c.loop-frame-test.true))
          (subst (λ (g : FrameView). HasRoomFor r (take i frames ++ g ∷ []) (length frames) now) c.frame-item.is
          (Each-push (λ g. length frames ≤ room_on now (way_sent r g)) (take i frames) f before c.in_ok-reserve.ensures.room));
      same = λ w. c.reserve.ensures.same w ∙ c.loop-frame.invariant.same w;
    }
