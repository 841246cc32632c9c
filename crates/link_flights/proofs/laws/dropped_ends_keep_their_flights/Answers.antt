-- Old frames are dropped as old flights are.
use Rattle.link_flights.proofs.Dropped.{end_dropped, end_elsewhere, hand_elsewhere}
use Rattle.link_flights.proofs.laws.dropped_ends_keep_their_flights.Goals as goal

pub returns-clause-own : goal.returns-clause-own
returns-clause-own c = end_dropped

pub returns-clause-others : goal.returns-clause-others
returns-clause-others c d st r q b w apart hand = hand_elsewhere st d r q b w apart hand

pub returns-clause-beside : goal.returns-clause-beside
returns-clause-beside c = end_elsewhere
