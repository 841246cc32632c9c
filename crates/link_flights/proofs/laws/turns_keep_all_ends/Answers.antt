-- A turn of one repository and the ends of all.
use Rattle.link_flights.proofs.Fleet.{closed_in, idle_in, turned_in}
use Rattle.link_flights.proofs.laws.turns_keep_all_ends.Goals as goal

pub returns-clause-moved : goal.returns-clause-moved
returns-clause-moved c s st d was now mine e sender word said known are ends posted carried =
    turned_in c.ends_are_there.ensures.listed s st d was now known ends are sender word said e mine posted carried

pub returns-clause-idle : goal.returns-clause-idle
returns-clause-idle c s st d was now known are ends carried = idle_in c.ends_are_there.ensures.listed s st d was now known ends are carried

pub returns-clause-closed : goal.returns-clause-closed
returns-clause-closed c s st d was now mine e sender word said known ends none closes posted carried =
    closed_in c.ends_are_there.ensures.listed s st d was now known ends sender word said e mine none closes posted carried
