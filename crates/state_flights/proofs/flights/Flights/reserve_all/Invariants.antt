-- What holds at each turn of the loop of `flights::Flights::reserve_all`.
use Rattle.std.proofs.Common.{length, take}
use Rattle.state_flights.specs.Flights.{HasRoomFor, StaySame}
use Rattle.state_flights.proofs.flights.Flights.reserve_all.Given as goal

abbrev pub invariant-loop-frame : goal.invariant-loop-frame
invariant-loop-frame l = record {
  room : HasRoomFor l.repo (take l.frame-index l.frames) (length l.frames) l.self;
  same : StaySame l.initial.self l.self;
}
