-- What an entry takes and sends over a connection are flights.
use Rattle.link_flights.proofs.Carried.{both_closed, both_dropped, both_turned, end_beside}
use Rattle.link_flights.proofs.laws.entries_fly_over_connections.Goals as goal

pub returns-clause-turn : goal.returns-clause-turn
returns-clause-turn c d st r a v w e said sender word apart at own other posts =
    let both = both_turned d st r a v w e said sender word apart at own other posts in (both.own, both.other)

pub returns-clause-idle : goal.returns-clause-idle
returns-clause-idle c d st r a v w apart at own other = let both = both_dropped d st r a v w apart at own other in (both.own, both.other)

pub returns-clause-close : goal.returns-clause-close
returns-clause-close c d st r a v w e said sender word apart own other posts none opens =
    let both = both_closed d st r a v w e said sender word apart own other posts none opens in (both.own, both.other)

pub returns-clause-beside : goal.returns-clause-beside
returns-clause-beside c = end_beside
