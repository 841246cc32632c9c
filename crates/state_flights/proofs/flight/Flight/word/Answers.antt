-- What the proof of `flight::Flight::word` needs beside the tactics.
use Rattle.std.proofs.Common.{sym}
use Rattle.state_flights.proofs.FlightLemmas.{no_word, word_is}
use Rattle.state_flights.proofs.flight.Flight.word.Goals as goal

pub returns-in-Some : goal.returns-in-Some
returns-in-Some c = sym (word_is c.args.self.now.waiting.items c.in-Some.first.now c.in-Some.ensures)

pub returns-in-None : goal.returns-in-None
returns-in-None c = sym (no_word c.args.self.now.waiting.items c.in-None.ensures)
