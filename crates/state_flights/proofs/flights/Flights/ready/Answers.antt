-- What the proof of `flights::Flights::ready` needs beside the tactics.
use Rattle.std.proofs.Common.{◌≡◌, ◌+◌, ◌≤◌, List, length, ap, sym, subst, ◌∙◌, arith}
use Rattle.run_data.specs.declared.entry.FrameView.{FrameView}
use Rattle.state_flights.specs.Flights.{HasOpenings, HasRoomFor}
use Rattle.state_flights.proofs.WayLemmas.{more_room, same_flights, same_rooms}
use Rattle.state_flights.proofs.flights.Flights.ready.Goals as goal

pub returns-clause-room : goal.returns-clause-room
returns-clause-room c =
    let r = c.args.repo in
    let mid = c.reserve_all.new.self in
    let now = c.reserve_openings.new.self in
    let frames = c.as_slice-frames.result.now in
    let is = c.as_slice-frames.ensures in
    let rooms = more_room r (length frames) frames mid now (λ w. let same = same_rooms mid now c.reserve_openings.ensures.same w in omega (arith, same)) c.in_ok-reserve_all.ensures.room in
    record {
      openings = subst (λ (fs : List FrameView). HasOpenings (length fs + 1) now) is c.in_ok-reserve_openings.ensures.room;
      frames = subst (λ (fs : List FrameView). HasRoomFor r fs (length fs) now) is rooms;
    }

pub returns-clause-same : goal.returns-clause-same
returns-clause-same c = λ w. same_flights c.reserve_all.new.self c.reserve_openings.new.self c.reserve_openings.ensures.same w ∙ c.reserve_all.ensures.same w

pub returns-in_err-reserve_openings-clause-same : goal.returns-in_err-reserve_openings-clause-same
returns-in_err-reserve_openings-clause-same c = λ w. same_flights c.reserve_all.new.self c.reserve_openings.new.self c.reserve_openings.ensures.same w ∙ c.reserve_all.ensures.same w
