-- What holds at each turn of the loop of `flights::Flights::send_all`.
use Rattle.std.proofs.Common.{◌≡◌, ◌-◌, drop, length, take, true}
use Rattle.run_model.specs.Frames.{Way}
use Rattle.step_judging.specs.Carried.{flight_sent}
use Rattle.state_flights.specs.Flights.{HasOpenings, HasRoomFor, bodies_of, flight_on, waits_on}
use Rattle.state_flights.proofs.flights.Flights.send_all.Given as goal

abbrev pub invariant-loop-frame : goal.invariant-loop-frame
invariant-loop-frame l = record {
  openings : HasOpenings (length l.frames - l.frame-index) l.self;
  frames : HasRoomFor l.repo l.frames (length l.frames - l.frame-index) l.self;
  bodies : l.bodies.items ≡ bodies_of (drop l.frame-index l.frames);
  flight : (w : Way) → flight_on l.self w ≡ flight_sent true (waits_on l.repo l.word (take l.frame-index l.frames) w) (flight_on l.initial.self w);
}
