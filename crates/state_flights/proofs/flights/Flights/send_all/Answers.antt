-- What the proof of `flights::Flights::send_all` needs beside the tactics.
use Rattle.std.proofs.Common.{◌≡◌, ◌+◌, ◌-◌, ◌<◌, ◌≤◌, ℕ, true, List, [], ◌∷◌, ◌++◌, drop, get_or, length, take, Option, Some, refl, sym, ap, subst, ◌∙◌, arith}
use Rattle.std.proofs.lemmas.List.{take_more, drop_more, drop_all, take_all}
use Rattle.annex_base.proofs.Lists.{Each-get_or, cons_first, cons_rest}
use Rattle.run_data.specs.declared.entry.FrameText.{FrameText}
use Rattle.run_data.specs.declared.entry.FrameView.{FrameView}
use Rattle.step_judging.specs.Carried.{WaitingFrame, flight_sent}
use Rattle.state_flights.specs.Flights.{HasOpenings, HasRoomFor, bodies_of, flight_on, room_on, waits_on, waits_with}
use Rattle.state_flights.specs.Ways.{same_way, way_sent}
use Rattle.state_flights.proofs.WayLemmas.{fewer, first_body, less_room, sent_more, sent_none, some_bodies}
use Rattle.state_flights.proofs.flights.Flights.send_all.Goals as goal

pub loop-frame-init : goal.loop-frame-init
loop-frame-init c = record {
  openings = record { up = omega (arith, c.requires.openings.up); down = omega (arith, c.requires.openings.down) };
  frames = fewer c.args.repo (length c.args.frames.now) (length c.args.frames.now - 0) c.args.frames.now c.args.self.now (omega arith) c.requires.frames;
  bodies = c.requires.bodies;
  flight = λ w. sym (sent_none (flight_on c.args.self.now w));
}

pub unwrap-body-requires : goal.unwrap-body-requires
unwrap-body-requires c =
    let long = c.loop-frame.bodies.ok.0 in
    let some = some_bodies c.loop-frame.bodies.items c.args.frames.now c.loop-frame.frame-index c.loop-frame.invariant.bodies c.loop-frame-test.true in
    c.pop_front.ensures.variant.1 (omega (arith, long, some))

pub send-requires-clause-openings : goal.send-requires-clause-openings
send-requires-clause-openings c =
    let has = c.loop-frame.invariant.openings in
    let up = has.up in
    let down = has.down in
    let within = c.loop-frame-test.true in
    record { up = omega (arith, up, within); down = omega (arith, down, within) }

pub send-requires-clause-frame : goal.send-requires-clause-frame
send-requires-clause-frame c =
    let frames = c.args.frames.now in
    let i = c.loop-frame.frame-index in
    let f = c.frame-item.result in
    let was = c.loop-frame.self in
    let r = c.args.repo in
    let within = c.loop-frame-test.true in
    let low = Each-get_or (λ g. length frames - i ≤ room_on was (way_sent r g)) frames i f within c.loop-frame.invariant.frames in
    let here = subst (λ (g : FrameView). length frames - i ≤ room_on was (way_sent r g)) (sym c.frame-item.is) low in
    omega (arith, here, within)

pub loop-frame-preserved : goal.loop-frame-preserved
loop-frame-preserved c =
    let frames = c.args.frames.now in
    let r = c.args.repo in
    let word = c.args.word in
    let i = c.loop-frame.frame-index in
    let f = c.frame-item.result in
    let was = c.loop-frame.self in
    let now = c.send.new.self in
    let within = c.loop-frame-test.true in
    let n = length frames - (i + 1) in
    let left = first_body c.pop_front.result c.unwrap-body.result c.loop-frame.bodies.items c.pop_front.new.self.items frames i f
    c.unwrap-body.ensures c.pop_front.ensures.items c.loop-frame.invariant.bodies within c.frame-item.is in
    let up = c.loop-frame.invariant.openings.up in
    let down = c.loop-frame.invariant.openings.down in
    record {
      openings = c.send.ensures.openings n (record { up = omega (arith, up, within); down = omega (arith, down, within) });
      frames = less_room r n frames was now c.send.ensures.frames (fewer r (length frames - i) (n + 1) frames was (omega (arith, within)) c.loop-frame.invariant.frames);
      bodies = left.1;
      flight = λ w.
          let first = flight_on c.args.self.now w in
          c.send.ensures.flight w
          ∙ ap (λ (b : FrameText). flight_sent (same_way (way_sent r f) w) (record { body = b; word = word } ∷ []) (flight_on was w)) left.0
          ∙ ap (flight_sent (same_way (way_sent r f) w) (waits_with word f ∷ [])) (c.loop-frame.invariant.flight w)
          ∙ sent_more r word (take i frames) f w first
          ∙ ap (λ (g : FrameView). flight_sent true (waits_on r word (take i frames ++ g ∷ []) w) first) c.frame-item.is
          ∙ ap (λ (fs : List FrameView). flight_sent true (waits_on r word fs w) first) (sym (take_more frames i f within));
    }
