-- What holds at each turn of the loop of `flights::bodies_of`.
use Rattle.std.proofs.Common.{◌≡◌, take}
use Rattle.state_flights.specs.Flights.{bodies_of}
use Rattle.state_flights.proofs.flights.bodies_of.Given as goal

abbrev pub invariant-loop-frame : goal.invariant-loop-frame
invariant-loop-frame l = l.bodies.items ≡ bodies_of (take l.frame-index l.frames)
